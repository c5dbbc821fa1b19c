use Rattle.printing.proofs.Escapes.{no_control_is_printed}
use Rattle.printing.proofs.laws.no_control_is_printed.Goals as goal

pub returns : goal.returns
returns c = no_control_is_printed
