use Rattle.std.proofs.Common.{sym, ◌∙◌, arith}
use Rattle.operator.proofs.Lines.{last_piece, further_piece}
use Rattle.operator.proofs.request_line.read_piece.Goals as goal

pub returns-in-Some-clause-piece : goal.returns-in-Some-clause-piece
returns-in-Some-clause-piece g c =
    let read = c.in_ok-gained.ensures in
    last_piece (g.R.Read.remaining c.args.reader.now.inner)
    (g.R.Read.remaining c.read_some.new.self.inner) c.read_some.new.buf c.in_ok-gained.gained
    c.in-Some.size read.within read.bytes.0 (sym c.line_feed.ensures ∙ c.in-Some.is)

pub returns-in-None-clause-piece : goal.returns-in-None-clause-piece
returns-in-None-clause-piece g c =
    let read = c.in_ok-gained.ensures in
    further_piece (g.R.Read.remaining c.args.reader.now.inner)
    (g.R.Read.remaining c.read_some.new.self.inner) c.read_some.new.buf c.in_ok-gained.gained
    (omega (arith, c.if-gained-eq0.false)) read.within read.bytes.0
    (sym c.line_feed.ensures ∙ c.in-None.is)
