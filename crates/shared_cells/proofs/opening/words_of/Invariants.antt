use Rattle.std.proofs.Common.{◌≡◌, ℕ, ◌<◌, length}
use Rattle.std.specs.Prelude.{slice_index}
use Rattle.shared_cells.specs.Words.{stored_word}
use Rattle.shared_cells.proofs.opening.words_of.Given as goal

abbrev pub invariant-loop-cell : goal.invariant-loop-cell
invariant-loop-cell l = record {
  count : length l.words.items ≡ l.cell;
  stored : (c : ℕ) → c < l.cell
      → slice_index l.words.items c ≡ stored_word c (slice_index l.values c);
}
