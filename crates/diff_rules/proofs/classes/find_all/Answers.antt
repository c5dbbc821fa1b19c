use Rattle.std.proofs.Common.{List, [], ◌∷◌, arith, subst, sym}
use Rattle.std.proofs.lemmas.List.{nil_from_length}
use Rattle.diff_rules.specs.Search.{LosesNoMachine}
use Rattle.diff_rules.specs.Truths.{PartialPlace}
use Rattle.diff_rules.proofs.Covered.{loses_none_then}
use Rattle.diff_rules.proofs.classes.find_all.Goals as goal

pub loop-pending-preserved : goal.loop-pending-preserved
loop-pending-preserved c =
    let space = c.args.space.now in
    let classes = c.loop-pending.classes.items in
    let more = c.advance.new.classes.items in
    let left = c.advance.new.left.items in (
      loses_none_then space [] classes more (c.args.first ∷ []) c.loop-pending.left.items left
          c.loop-pending.invariant.0
          (subst (λ (ks : List PartialPlace). LosesNoMachine space classes ks more left)
          (sym c.in-Some.ensures.items) (c.in_ok-advance.ensures c.if-not-branch.false)),
      omega arith,
    )

pub returns : goal.returns
returns c =
    let left = c.loop-pending.left.items in
    let count = c.loop-pending.left.ok.0 in
    let zero = c.in_default.ensures.cases.0 in
    let none = nil_from_length left (omega (arith, count, zero)) in
    subst (λ (ks : List PartialPlace). LosesNoMachine c.args.space.now [] (c.args.first ∷ [])
    c.loop-pending.classes.items ks) none c.loop-pending.invariant.0
