use Rattle.std.proofs.Common.{◌≡◌}
use Rattle.counter_store.proofs.ledger.Ledger.open.Given as goal

-- only ceilings change
abbrev pub invariant-loop-cell : goal.invariant-loop-cell
invariant-loop-cell l = record {
  numbers : l.self.numbers ≡ l.initial.self.numbers;
  arrays : l.self.arrays ≡ l.initial.self.arrays;
  ceilings : l.self.ceilings ≡ l.initial.self.ceilings;
}
