use Rattle.std.proofs.Common.{◌≡◌, ℕ, ◌<◌, ◌≤◌, Bool, length}
use Rattle.diff_space.specs.Families.{AreFew, HasCombination, combination, texts_at}
use Rattle.diff_space.proofs.grouping.make_group.Given as goal

abbrev pub invariant-loop-number : goal.invariant-loop-number
invariant-loop-number l = record {
  dimensions : l.group.dimensions ≡ l.initial.group.dimensions;
  has : AreFew l.dimensions → (number : ℕ) → number < l.number → (text : ℕ)
      → text ≤ length (texts_at l.dimensions l.family.text) → (is_known : Bool)
      → HasCombination l.family l.dimensions l.group (combination number is_known text);
}
