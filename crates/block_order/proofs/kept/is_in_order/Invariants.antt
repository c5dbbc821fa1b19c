use Rattle.std.proofs.Common.{◌≡◌, ℕ, ◌<◌, Some}
use Rattle.block_order.specs.Order.{place_at, IsKeptAt}
use Rattle.block_order.proofs.kept.is_in_order.Given as goal

abbrev pub invariant-loop-slot : goal.invariant-loop-slot
invariant-loop-slot l =
    (s : ℕ) → s < l.slot → (t : ℕ) → place_at l.places s ≡ Some t
    → IsKeptAt (place_at l.places) l.code l.flow s t
