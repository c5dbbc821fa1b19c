use Rattle.access_log.proofs.Escaped.{quoted_plain}
use Rattle.access_log.proofs.json_text.write_plain.Goals as goal

pub returns : goal.returns
returns c =
    quoted_plain c.args.line.now c.args.text.now c.requires c.in_ok-put.ensures
    c.in_ok-put-2.ensures c.in_ok-put-3.ensures
