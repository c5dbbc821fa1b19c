-- The texts of why a script isn't played, as they are printed.
use Rattle.std.specs.Prelude.{ℕ, List}
use Rattle.bounded_files.specs.Texts.{resource_text}
use Rattle.event_script.specs.Texts.{script_fault_text}
use Rattle.load.specs.Texts.{path_fault_text}
use Rattle.replay.specs.declared.replay_fault.ReplayFault.{ReplayFault}
use Rattle.replay.specs.declared.replay_fault.ReplayFault.TheVariants.{Resource, Script, Manifest}

abbrev pub replay_fault_text : ReplayFault → List ℕ
replay_fault_text (Resource fault) = resource_text fault
replay_fault_text (Script fault) = script_fault_text fault
replay_fault_text (Manifest fault) = path_fault_text fault
