use Rattle.std.proofs.Common.{◌≡◌, ◌+◌, length}
use Rattle.rule_compile.specs.Code.{place_named}
use Rattle.rule_compile.proofs.test.place_named.Given as goal

abbrev pub invariant-loop-rest : goal.invariant-loop-rest
invariant-loop-rest l = record {
  place : l.place + place_named l.name l.rest ≡ place_named l.name l.arrays;
  sum : l.place + length l.rest ≡ length l.arrays;
}

abbrev pub decreases-loop-rest : goal.decreases-loop-rest
decreases-loop-rest l = length l.rest
