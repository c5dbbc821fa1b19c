use Rattle.diff_manifests.proofs.Floatless.{floatless}
use Rattle.diff_manifests.proofs.output.json_of.Goals as goal

pub json_line-line-requires : goal.json_line-line-requires
json_line-line-requires c = rw c.in_ok-value.ensures
    (floatless c.args.old.now c.args.new.now c.args.changes.now c.args.diffs.now c.args.loses
    c.is_same-same.result)
