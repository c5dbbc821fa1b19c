use Rattle.bounded_files.proofs.Within.{taken}
use Rattle.bounded_files.proofs.disk.Disk.keep_regular.Goals as goal

pub returns : goal.returns
returns g c =
    c.keep_read.ensures _ c.args.path.now
    (rw c.whole.ensures (taken _ _ _ _ c.read_regular.ensures))
