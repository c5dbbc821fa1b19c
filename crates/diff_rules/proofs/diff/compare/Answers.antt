use Rattle.std.proofs.Common.{IfSome, Option, Vec, subst}
use Rattle.std.specs.declared.alloc.Global.{Global}
use Rattle.diff_space.specs.Scopes.{scope_of, side_of}
use Rattle.diff_space.specs.Spaces.{IsSpaceOf, Space}
use Rattle.diff_rules.specs.Rows.{IsDiff, DiffRow}
use Rattle.diff_rules.proofs.diff.compare.Goals as goal

pub returns-in-Some-2 : goal.returns-in-Some-2
returns-in-Some-2 c =
    let x = scope_of c.args.bounds.now in
    let old = side_of c.args.old.now in
    let new = side_of c.args.new.now in
    subst (λ (o : Option (Vec DiffRow Global)).
    IfSome o (λ rows. IsDiff x old new c.in-Some.space rows.items)) c.in-Some-2.is
    (c.in_ok-rows.ensures x old new
    (subst (λ (o : Option Space). IfSome o (IsSpaceOf x old new)) c.in-Some.is
    c.in_ok-space.ensures))
