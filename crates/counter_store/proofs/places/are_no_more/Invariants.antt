use Rattle.std.proofs.Common.{ℕ, ◌<◌, ◌≤◌}
use Rattle.std.specs.Prelude.{slice_index}
use Rattle.counter_store.proofs.places.are_no_more.Given as goal

abbrev pub invariant-loop-cell : goal.invariant-loop-cell
invariant-loop-cell l =
    (c : ℕ) → c < l.cell → slice_index l.places c ≤ slice_index l.before c
