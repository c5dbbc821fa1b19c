use Rattle.std.proofs.lemmas.Iterator.Splits.{YieldsList-from_str_split}
use Rattle.declarations.proofs.Cuts.{cut-none, cut-next, cut-all}
use Rattle.declarations.proofs.parts.parts_of.Goals as goal

pub loop-part-init : goal.loop-part-init
loop-part-init c =
    let split = c.split-part-items.ensures in
    rw (c.into_iter-part-iterator.ensures.into_iter_gives, c.new-parts.ensures.items)
    (cut-none _ (
    YieldsList-from_str_split c.args.at c.args.text.now c.requires
    split.text split.has_more split.pattern))

pub loop-part-preserved : goal.loop-part-preserved
loop-part-preserved c =
    let step = rw c.in-Some.is at c.next.ensures.steps in
    rw c.in_ok-push.ensures.items
    (cut-next c.next.new.self c.in-Some.part c.loop-part.invariant step)

pub returns : goal.returns
returns c =
    let step = rw c.in-None.is at c.next.ensures.steps in
    cut-all c.next.new.self c.loop-part.invariant step
