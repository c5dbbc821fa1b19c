use Rattle.std.proofs.Common.{◌≡◌, ◌++◌, length}
use Rattle.std.specs.List.{AllByRecursion}
use Rattle.flow_check.specs.Flow as flow
use Rattle.flow_check.specs.Laid.{laid_after, laid}
use Rattle.rule_compile.specs.Writing.{CanEncode}
use Rattle.rule_compile.proofs.bytes.program_bytes.Given as goal

abbrev pub invariant-loop-rest : goal.invariant-loop-rest
invariant-loop-rest l = record {
  bytes : l.bytes.items ++ flow.program_bytes (laid_after l.is_half l.rest)
      ≡ flow.program_bytes (laid l.slots);
  encodable : AllByRecursion CanEncode (laid_after l.is_half l.rest)
      → AllByRecursion CanEncode (laid l.slots);
}

abbrev pub decreases-loop-rest : goal.decreases-loop-rest
decreases-loop-rest l = length l.rest
