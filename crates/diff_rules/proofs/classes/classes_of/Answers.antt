use Rattle.std.proofs.Common.{IfSome, Option, [], ◌∷◌, subst}
use Rattle.std.proofs.Common.{Vec}
use Rattle.std.specs.declared.alloc.Global.{Global}
use Rattle.diff_rules.specs.Classes.{PlaceClass}
use Rattle.diff_rules.specs.Search.{LosesNoMachine}
use Rattle.diff_rules.proofs.Covered.{covered}
use Rattle.diff_rules.proofs.classes.classes_of.Goals as goal

pub returns : goal.returns
returns c = λ x old new is.
    let space = c.args.space.now in
    let first = c.in_ok-first.first in
    covered x old new space c.in-Some.classes.items first is c.in_ok-first.ensures
    (subst (λ (o : Option (Vec PlaceClass Global)).
    IfSome o (λ cs. LosesNoMachine space [] (first ∷ []) cs.items [])) c.in-Some.is
    c.in_ok-classes.ensures)
