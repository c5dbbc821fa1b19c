use Rattle.shared_cells.specs.Passes.{IsPassOf}
use Rattle.test_calls.proofs.passes.add_often.Given as goal

abbrev pub invariant-loop : goal.invariant-loop
invariant-loop l = IsPassOf l.cells l.pass
