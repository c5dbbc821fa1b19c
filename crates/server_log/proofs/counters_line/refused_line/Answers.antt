use Rattle.std.proofs.Common.{Some, refl}
use Rattle.server_log.proofs.counters_line.refused_line.Goals as goal

pub returns-in-Ok : goal.returns-in-Ok
returns-in-Ok c = record {
  refusal = Some c.args.refusal;
  refusal_is = refl;
  line_is = c.in-Ok.ensures.text;
}
