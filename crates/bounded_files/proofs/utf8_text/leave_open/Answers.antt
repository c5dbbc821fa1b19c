use Rattle.std.proofs.Common.{sym, subst}
use Rattle.std.specs.Str.{IsValidUpTo}
use Rattle.bounded_files.proofs.Pieces.{leaves_text}
use Rattle.bounded_files.proofs.utf8_text.leave_open.Goals as goal

pub returns-in-Ok : goal.returns-in-Ok
returns-in-Ok c =
    leaves_text c.args.bytes.now c.new.result c.in-Ok.ensures.cases.1 c.new.ensures.items

pub leave_behind-requires : goal.leave_behind-requires
leave_behind-requires c =
    subst (IsValidUpTo c.args.bytes.now) (sym c.valid_up_to.ensures) c.in-Err.ensures.cases.1
