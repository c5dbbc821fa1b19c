use Rattle.std.proofs.Common.{◌∙◌}
use Rattle.std.specs.Arc.{arc_value}
use Rattle.replay.proofs.Sharing.{one_more_shared}
use Rattle.replay.proofs.shared.SharedLoads.add.Goals as goal

pub returns : goal.returns
returns c = λ known directory shared loaded.
    one_more_shared known directory c.args.self.now.loads.items c.push.new.self.items _
    c.args.path.now (arc_value c.args.rules.now) c.in_ok-push.ensures.items
    (c.new-path.ensures ∙ c.in_ok-from_str.ensures.ok) c.in_ok-rules.ensures shared loaded
