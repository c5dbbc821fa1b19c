use Rattle.std.proofs.Common.{refl}
use Rattle.bounded_files.proofs.SoFar.{none_yet}
use Rattle.bounded_files.proofs.kept_bytes.SoFar.none.Goals as goal

pub returns : goal.returns
returns c = λ kept. none_yet kept _ _ c.new.ensures.items refl refl c.new-2.ensures.items
