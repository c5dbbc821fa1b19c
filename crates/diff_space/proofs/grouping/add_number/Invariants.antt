use Rattle.std.proofs.Common.{ℕ, ◌<◌, Bool}
use Rattle.diff_space.specs.Families.{AreFew, HasCombination, combination, GrowsTo}
use Rattle.diff_space.proofs.grouping.add_number.Given as goal

abbrev pub invariant-loop-text : goal.invariant-loop-text
invariant-loop-text l = record {
  grows : GrowsTo l.initial.group l.group;
  has : AreFew l.dimensions → (text : ℕ) → text < l.text → (is_known : Bool)
      → HasCombination l.family l.dimensions l.group (combination l.number is_known text);
}
