-- The texts of why no reply is found, as they are printed after `refused `.
use Rattle.std.specs.Prelude.{ℕ, List, codes}
use Rattle.bounded_files.specs.Texts.{resource_text}
use Rattle.load.specs.Texts.{path_fault_text}
use Rattle.omaha_json.specs.Faults.{omaha_name}
use Rattle.dry_run.specs.declared.dry_run_fault.DryRunFault.{DryRunFault}
use Rattle.dry_run.specs.declared.dry_run_fault.DryRunFault.TheVariants as fault

abbrev pub dry_run_text : DryRunFault → List ℕ
dry_run_text (fault.Manifest why) = path_fault_text why
dry_run_text (fault.Resource why) = resource_text why
dry_run_text fault.TooLarge = codes "P5 TooLarge"
dry_run_text fault.Cell = codes "B7 Cell"
dry_run_text (fault.Omaha why) = omaha_name why
