use Rattle.std.proofs.Common.{arith}
use Rattle.bounded_files.proofs.Pieces.{leaves, leaves_none}
use Rattle.bounded_files.proofs.utf8_text.leave_behind.Goals as goal

pub returns-then-open-gt3 : goal.returns-then-open-gt3
returns-then-open-gt3 c =
    leaves_none c.args.bytes.now c.split_at.result.1.now c.args.valid c.requires
    c.split_at.ensures.back c.if-open-gt3.true

pub returns : goal.returns
returns c =
    leaves c.args.bytes.now c.split_at.result.1.now c.args.valid c.in_ok-open.open c.requires
    c.in_ok-open.ensures.items c.split_at.ensures.back (omega (arith, c.if-open-gt3.false))
