-- The texts of a server's faults, as they are printed, and the causes that its log has with them.
use Rattle.std.specs.Prelude.{ℕ, List, codes, Option, None, option_map, string_bytes}
use Rattle.shared_cells.specs.Texts.{shared_text}
use Rattle.bounded_files.specs.Texts.{resource_text}
use Rattle.load.specs.Texts.{path_fault_text}
use Rattle.hot_swap.specs.Texts.{swap_text}
use Rattle.serving.specs.declared.serving_fault.ServingFault.{ServingFault}
use Rattle.serving.specs.declared.serving_fault.ServingFault.TheVariants as serving

abbrev pub serving_text : ServingFault → List ℕ
serving_text (serving.Manifest refusal) = path_fault_text refusal.fault
serving_text serving.Bind = codes "B6 Bind"
serving_text (serving.Cells fault) = shared_text fault
serving_text (serving.Publisher fault) = swap_text fault
serving_text (serving.Resource fault) = resource_text fault

-- the cause of a manifest's fault, if there is one
abbrev pub cause_of : ServingFault → Option (List ℕ)
cause_of (serving.Manifest refusal) = option_map string_bytes refusal.cause
cause_of fault = None
