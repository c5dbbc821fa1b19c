use Rattle.std.proofs.Common.{refl}
use Rattle.hot_swap.proofs.KnownPublisher.{turns}
use Rattle.hot_swap.proofs.watcher.look.Goals as goal

pub enter_as-requires : goal.enter_as-requires
enter_as-requires c x = turns _ _ x x refl
