use Rattle.std.proofs.Common.{arith}
use Rattle.report.proofs.Loops.{text_noted}
use Rattle.report.proofs.events.note_text.Goals as goal

pub returns : goal.returns
returns c =
    text_noted c.args.question c.args.app.now c.args.appid.now _ c.loop-left.left.now _ _ _
    c.loop-left.invariant (omega arith)
