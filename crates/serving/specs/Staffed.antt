-- Why a ready server gets no workers, and why a server that has served returns no counters.
use Rattle.std.specs.Prelude.{◌≡◌}
use Rattle.bounded_files.specs.declared.resource_fault.ResourceFault.TheVariants as resource
use Rattle.shared_cells.specs.declared.shared_fault.SharedFault.TheVariants as shared
use Rattle.hot_swap.specs.declared.swap_fault.SwapFault.TheVariants as swap
use Rattle.serving.specs.declared.serving_fault.ServingFault.{ServingFault}
use Rattle.serving.specs.declared.serving_fault.ServingFault.TheVariants as serving

-- out of memory for the counters, for the publisher of the rulesets or a watcher, or for the server
-- itself
abbrev pub IsStaffFault : ServingFault → Type 0
IsStaffFault (serving.Cells fault) = fault ≡ shared.Memory
IsStaffFault (serving.Publisher fault) = fault ≡ swap.Memory
IsStaffFault (serving.Resource fault) = fault ≡ resource.Memory
IsStaffFault fault = ⊥

-- an allocation or a thread fails, or the ready line can't be written; or a watcher can't be read
-- at the end
abbrev pub IsEndFault : ServingFault → Type 0
IsEndFault (serving.Resource fault) = Unit {0}
IsEndFault (serving.Publisher fault) = fault ≡ swap.NoPlace
IsEndFault fault = ⊥
