use Rattle.std.proofs.Common.{◌≡◌, length, map, All}
use Rattle.httparse.specs.Spans.{header_bytes, IsHeaderWithin}
use Rattle.http_front.specs.Head.{has_line}
use Rattle.http_front.proofs.header_lines.has_line.Given as goal

-- the lines that were skipped don't have the name
abbrev pub invariant-loop-lines : goal.invariant-loop-lines
invariant-loop-lines l =
    All (IsHeaderWithin (length l.buf)) l.lines
    × (has_line l.name (map (header_bytes l.buf) l.lines)
    ≡ has_line l.name (map (header_bytes l.buf) l.initial.lines))

abbrev pub decreases-loop-lines : goal.decreases-loop-lines
decreases-loop-lines l = length l.lines
