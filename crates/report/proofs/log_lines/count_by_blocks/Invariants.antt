use Rattle.std.proofs.Common.{List, ℕ, [], ◌<◌, length}
use Rattle.std.specs.Io.KnownBytes.{Consumes}
use Rattle.report.specs.Reading.{ReadsBlock}
use Rattle.report.proofs.log_lines.count_by_blocks.Given as goal

-- the bytes read so far, whose lines are counted except for the beginning of the last
abbrev pub invariant-loop : goal.invariant-loop
invariant-loop g l = record {
  seen : List ℕ;
  known : Consumes (g.R.Read.remaining l.fn.reader) (g.R.Read.remaining l.reader) seen;
  reads : ReadsBlock l.window seen [] l.fn.report l.begun.items l.report;
  room : 0 < length l.block;
}
