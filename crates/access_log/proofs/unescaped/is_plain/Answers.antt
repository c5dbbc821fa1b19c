use Rattle.access_log.proofs.Lanes.{plain_if}
use Rattle.access_log.proofs.unescaped.is_plain.Goals as goal

pub returns : goal.returns
returns c = plain_if c.all_plain.result c.args.text.now c.all_plain.ensures
