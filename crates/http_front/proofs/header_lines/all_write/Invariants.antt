use Rattle.std.proofs.Common.{◌≡◌, length, All}
use Rattle.std.specs.List.{list_all}
use Rattle.httparse.specs.Spans.{IsHeaderWithin}
use Rattle.http_front.specs.Length.{writes}
use Rattle.http_front.specs.Reading.{values_at}
use Rattle.http_front.proofs.header_lines.all_write.Given as goal

-- the lines that were skipped have another name, or the number
abbrev pub invariant-loop-lines : goal.invariant-loop-lines
invariant-loop-lines l =
    All (IsHeaderWithin (length l.buf)) l.lines
    × (list_all (writes l.digits) (values_at l.buf l.lines l.name)
    ≡ list_all (writes l.digits) (values_at l.buf l.initial.lines l.name))

abbrev pub decreases-loop-lines : goal.decreases-loop-lines
decreases-loop-lines l = length l.lines
