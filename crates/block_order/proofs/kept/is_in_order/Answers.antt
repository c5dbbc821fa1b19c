use Rattle.std.proofs.Common.{◌≡◌, ℕ, ◌<◌, Some, length, ◌∙◌, arith, below_more}
use Rattle.block_order.specs.Order.{place_at, IsKeptAt}
use Rattle.block_order.proofs.Places.{at_read, place_within}
use Rattle.block_order.proofs.kept.is_in_order.Goals as goal

pub loop-slot-preserved : goal.loop-slot-preserved
loop-slot-preserved c = λ s lt.
    below_more (λ s. (t : ℕ) → place_at c.args.places.now s ≡ Some t
    → IsKeptAt (place_at c.args.places.now) c.args.code.now c.args.flow.now s t)
    c.loop-slot.slot c.loop-slot.invariant
    (λ t is. let k = c.is_slot_kept.ensures c.if-not-is_slot_kept.false t is in
    (k.0, at_read c.args.code.now c.loop-slot.slot ∙ k.1, k.2)) s lt

pub returns : goal.returns
returns c = λ yes. record {
  start = c.keeps_entry.ensures c.if-not-keeps_entry.false;
  kept = λ s t is.
      let within : s < length c.args.places.now = place_within c.args.places.now s t is in
      c.loop-slot.invariant s
      (omega (arith, within, c.requires.length, c.loop-slot-test.false)) t is;
  leaves = λ s t is. c.all_leave_jumps.ensures c.if-not-all_leave_jumps.false s t is;
}
