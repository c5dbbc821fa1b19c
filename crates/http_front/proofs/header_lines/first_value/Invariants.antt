use Rattle.std.proofs.Common.{◌≡◌, length, All}
use Rattle.httparse.specs.Spans.{IsHeaderWithin}
use Rattle.http_front.specs.Reading.{values_at}
use Rattle.http_front.proofs.header_lines.first_value.Given as goal

-- the lines that were skipped don't have the name
abbrev pub invariant-loop-lines : goal.invariant-loop-lines
invariant-loop-lines l =
    All (IsHeaderWithin (length l.buf)) l.lines
    × (values_at l.buf l.lines l.name ≡ values_at l.buf l.initial.lines l.name)

abbrev pub decreases-loop-lines : goal.decreases-loop-lines
decreases-loop-lines l = length l.lines
