use Rattle.std.proofs.Common.{arith, refl, ◌∙◌}
use Rattle.std.proofs.lemmas.List.FromFn.{fill_by_all}
use Rattle.std.proofs.lemmas.List.{length-set}
use Rattle.abs_value.specs.declared.slot.AbsSlot.TheVariants.{Bytes}
use Rattle.abs_value.specs.Stack.{slot_at, join_slots, join_stacks}
use Rattle.abs_value.proofs.Lists.{put_more, stands_more, put_before}
use Rattle.abs_value.proofs.Unset.{joined_below, joined_at, stands_at}
use Rattle.abs_value.proofs.stack.join_from.Goals as goal
use Rattle.abs_value.proofs.stack.join_from.Goals.{then-not-stays, else-not-stays}

pub loop-i-init : goal.loop-i-init
loop-i-init c = record {
  all = c.told-stack;
  joined = λ k lt. joined_below c.args.stack.now c.args.other.now c.args.from k c.requires lt;
  rest = λ k le. refl;
}

pub loop-i-preserved : goal.loop-i-preserved
loop-i-preserved c =
    let here = c.loop-i.invariant.rest c.loop-i.i (omega arith) in
    let long = c.loop-i.invariant.all in
    let wide = c.told-other in
    let lt = c.loop-i-test.true in
    elim c.if-not-stays.branch [
      | then-not-stays w ↦ rw w.stack-is (record {
        all = length-set c.loop-i.stack c.loop-i.i w.join.result ∙ c.loop-i.invariant.all;
        joined = put_more c.loop-i.stack c.loop-i.i w.join.result (Bytes 0)
            (λ k. join_slots (slot_at c.args.stack.now k) (slot_at c.args.other.now k))
            (omega (arith, long, lt))
            (joined_at c.loop-i.stack c.args.stack.now c.args.other.now c.loop-i.i _ _
            w.join.result (omega (arith, long, lt)) (omega (arith, wide, lt)) here
            w.join.ensures) c.loop-i.invariant.joined;
        rest = put_before c.loop-i.stack c.args.stack.now c.loop-i.i w.join.result (Bytes 0)
            c.loop-i.invariant.rest;
      })
      | else-not-stays w ↦
          rw w.stack-is (record {
            all = c.loop-i.invariant.all;
            joined = stands_more c.loop-i.stack c.loop-i.i (Bytes 0)
                (λ k. join_slots (slot_at c.args.stack.now k) (slot_at c.args.other.now k))
                (stands_at c.loop-i.stack c.args.stack.now c.args.other.now c.loop-i.i _ _
                (omega (arith, long, lt)) (omega (arith, wide, lt)) here
                (c.stays.ensures w.if-not-stays.false)) c.loop-i.invariant.joined;
            rest = λ k le. c.loop-i.invariant.rest k (omega (arith, le));
          })
    ]

pub returns : goal.returns
unfolding join_stacks
returns c =
    fill_by_all (λ k. join_slots (slot_at c.args.stack.now k) (slot_at c.args.other.now k))
    c.loop-i.stack 64 (Bytes 0)
    c.loop-i.invariant.all (λ k lt. c.loop-i.invariant.joined k (omega arith))
