use Rattle.std.proofs.Common.{sym, arith}
use Rattle.std.proofs.lemmas.List.{take_all}
use Rattle.server_log.proofs.recorder.first_bytes.Goals as goal

pub returns : goal.returns
returns c = sym (take_all _ _ (omega arith))
