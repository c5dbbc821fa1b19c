use Rattle.std.proofs.Common.{◌≡◌, length}
use Rattle.std.specs.Io.KnownBytes.{Keeps}
use Rattle.bounded_files.proofs.kept_bytes.read_some.Given as goal

-- a failed read loses nothing
abbrev pub invariant-loop : goal.invariant-loop
invariant-loop g l =
    Keeps (g.R.Read.remaining l.fn.reader) (g.R.Read.remaining l.reader)
    × (length l.piece ≡ length l.fn.piece)
