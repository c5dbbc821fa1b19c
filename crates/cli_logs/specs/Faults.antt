-- The texts of the faults.
use Rattle.std.specs.Prelude.{ℕ, List, codes}
use Rattle.bounded_files.specs.Texts.{resource_text}
use Rattle.cli_logs.specs.declared.report_fault.ReportFault.{ReportFault}
use Rattle.cli_logs.specs.declared.report_fault.ReportFault.TheVariants.{Resource, State, Locked}

abbrev pub report_fault_text : ReportFault → List ℕ
report_fault_text (Resource fault) = resource_text fault
report_fault_text State = codes "B9 State"
report_fault_text Locked = codes "B10 Locked"
