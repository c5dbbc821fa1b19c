use Rattle.std.proofs.Common.{append-nil, sym}
use Rattle.warnings.proofs.warning_lines.push_warnings.Goals as goal

pub loop-warning-init : goal.loop-warning-init
loop-warning-init c = sym (append-nil _)
