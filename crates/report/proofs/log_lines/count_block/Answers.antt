use Rattle.std.proofs.Common.{arith, refl}
use Rattle.report.proofs.Loops.{none_left}
use Rattle.report.proofs.Pieces.{piece_read}
use Rattle.report.proofs.Read.{block_read}
use Rattle.report.proofs.log_lines.count_block.Goals as goal

pub loop-left-preserved : goal.loop-left-preserved
loop-left-preserved c =
    piece_read c.args.window.now c.args.begun.now.items c.args.block.now c.args.report.now
    c.loop-left.begun.items c.loop-left.report c.loop-left.left.now c.loop-left.invariant
    c.in_ok-read.read _ c.count_piece.new.begun.items c.count_piece.new.report refl
    c.in_ok-read.ensures.reads

pub returns : goal.returns
returns c =
    block_read c.args.window.now c.args.begun.now.items c.args.block.now c.args.report.now
    c.loop-left.begun.items c.loop-left.report c.loop-left.left.now c.loop-left.invariant
    (none_left c.loop-left.left.now (grind (arith, c.loop-left-test.ensures)))
