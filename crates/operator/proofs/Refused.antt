-- Why a ruleset isn't installed.
use Rattle.std.proofs.Common.{◌≡◌, ◌≢◌, ℕ, ◌^◌, ◌-◌, Result, Err}
use Rattle.std.specs.Prelude.{◌↔◌}
use Rattle.hot_swap.specs.Latest.{Publishing}
use Rattle.hot_swap.specs.declared.swap_fault.SwapFault.{SwapFault}
use Rattle.hot_swap.specs.declared.swap_fault.SwapFault.TheVariants as swap
use Rattle.operator.specs.Control.{IsUninstallable}

pub uninstallable : (old : Publishing) (fault : SwapFault) (result : Result ℕ SwapFault)
    → result ≡ Err fault
    → (result ≡ Err swap.Exhausted) ↔ (old.latest.generation ≡ 2 ^ 64 - 1)
    → result ≢ Err swap.NoPlace → IsUninstallable old fault
uninstallable old swap.Exhausted result is exhausted placed = exhausted.0 is
uninstallable old swap.NoPlace result is exhausted placed = absurd (placed is)
uninstallable old swap.Memory result is exhausted placed = tt
