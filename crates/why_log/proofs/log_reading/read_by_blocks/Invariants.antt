use Rattle.std.proofs.Common.{◌<◌, length}
use Rattle.why_log.specs.Found.{Keeps}
use Rattle.why_log.proofs.log_reading.read_by_blocks.Given as goal

-- the lines so far are the machine's
abbrev pub invariant-loop : goal.invariant-loop
invariant-loop g l = record {
  kept : Keeps l.machine l.fn.found l.found;
  room : 0 < length l.block;
}
