use Rattle.std.proofs.Common.{List, [], ◌∷◌, ◌++◌, ◌∙◌, ap, subst, sym}
use Rattle.diff_rules.specs.Classes.{PlaceClass}
use Rattle.diff_rules.specs.Search.{LosesNoMachine, pair_run}
use Rattle.diff_rules.specs.Stack.{plan_run}
use Rattle.diff_rules.specs.Truths.{PartialPlace}
use Rattle.diff_rules.proofs.Covered.{class_loses_none}
use Rattle.diff_rules.proofs.classes.advance.Goals as goal

pub returns-in_ok-add_class-in-Both : goal.returns-in_ok-add_class-in-Both
returns-in_ok-add_class-in-Both c = λ done.
    let space = c.args.space.now in
    let classes = c.args.classes.now.items in
    let left = c.args.left.now.items in
    let pending = c.args.pending in
    let partial = c.deref.ensures.value ∙ c.pending.view_is in
    let gives = ap (λ (k : PartialPlace). pair_run (plan_run space.dimensions k [] space.old)
    (plan_run space.dimensions k [] space.new)) (sym partial)
    ∙ sym c.in_ok-now.ensures ∙ c.in-Both.is in
    subst (λ (cs : List PlaceClass). LosesNoMachine space classes (left ++ pending ∷ []) cs left)
    (sym c.in_ok-add_class-in-Both.ensures)
    (class_loses_none space classes left pending c.in-Both.now c.in-Both.next gives)

pub returns-in-Needs : goal.returns-in-Needs
returns-in-Needs c = c.split_at.ensures c.args.classes.now.items
