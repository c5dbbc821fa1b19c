use Rattle.std.proofs.Common.{◌≡◌, ◌-◌, ◌∙◌, length, length-drop, subst, arith}
use Rattle.operator.specs.Line.{IsPiece}
use Rattle.operator.specs.declared.request_line.Piece.{Piece}
use Rattle.operator.proofs.Lines.{goes_on, long}
use Rattle.operator.proofs.request_line.read_line.Goals as goal

pub loop-size-preserved : goal.loop-size-preserved
loop-size-preserved g c =
    let old = g.R.Read.remaining c.args.reader.now.inner in
    let mid = g.R.Read.remaining c.loop-size.reader.inner in
    let new = g.R.Read.remaining c.read_piece.new.reader.inner in
    let room = c.loop-size.room in
    let part = c.read_piece.new.room in
    let size = c.loop-size.size in
    let n = c.in-Further.gained in
    let was = c.loop-size.invariant in
    let Of : Piece → Type 0 = λ p. IsPiece mid new part p in
    let piece = subst Of c.in-Further.is c.in_ok-gained.ensures.piece in
    let same : length part ≡ length room - size =
    omega (arith, c.read_piece.auto.room, length-drop size room, was.1) in (
      goes_on old mid new room part size n was.1 same was.0 piece,
      omega (arith, was.1, same, piece.1, long old mid new room part size n was.1 same was.0),
      c.in_ok-gained.ensures.count ∙ was.2,
    )
