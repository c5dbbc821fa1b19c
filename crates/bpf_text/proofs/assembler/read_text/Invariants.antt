use Rattle.std.proofs.Common.{◌≤◌, ◌+◌, length}
use Rattle.bpf_text.proofs.Passes.{HasReadUpTo}
use Rattle.bpf_text.proofs.assembler.read_text.Given as goal

abbrev pub invariant-loop-rest : goal.invariant-loop-rest
invariant-loop-rest l = record {
  so_far : HasReadUpTo l.text l.rest l.reading;
  room : l.reading.lines + length l.rest ≤ length l.text;
  small : l.reading.slots ≤ 4096;
}

abbrev pub decreases-loop-rest : goal.decreases-loop-rest
decreases-loop-rest l = length l.rest
