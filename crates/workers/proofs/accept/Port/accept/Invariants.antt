use Rattle.std.specs.Prelude.{◌≡◌}
use Rattle.workers.proofs.accept.Port.accept.Given as goal

-- no connection is accepted yet
abbrev pub invariant-loop : goal.invariant-loop
invariant-loop g l = l.self.accepted ≡ l.initial.self.accepted
