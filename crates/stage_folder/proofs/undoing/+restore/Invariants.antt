use Rattle.std.proofs.Common.{length}
use Rattle.stage_folder.proofs.undoing.«+restore».Given as goal

abbrev pub decreases-restore : goal.decreases-restore
decreases-restore g l = length l.files.now
