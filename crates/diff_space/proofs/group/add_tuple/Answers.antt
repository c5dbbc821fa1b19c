use Rattle.diff_space.proofs.Grown.{pushed}
use Rattle.diff_space.proofs.group.add_tuple.Goals as goal

pub returns : goal.returns
returns c = rw c.in_ok-push.ensures.items (pushed c.args.tuples.now.items _)
