use Rattle.std.proofs.Common.{◌≡◌, ℕ, ◌<◌}
use Rattle.std.specs.Prelude.{slice_index}
use Rattle.counter_store.proofs.next_number.is_any_new.Given as goal

-- the cells so far that have places keep their numbers
abbrev pub invariant-loop-cell : goal.invariant-loop-cell
invariant-loop-cell l =
    (c : ℕ) → c < l.cell → 0 < slice_index l.places c
    → slice_index l.next c ≡ slice_index l.numbers c
