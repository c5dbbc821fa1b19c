-- The texts that the program prints if `serve` is refused.
use Rattle.std.specs.Prelude.{ℕ, List, Option, None}
use Rattle.cli_commands.specs.declared.serve_fault.ServeRefusal.{ServeRefusal}
use Rattle.cli_commands.specs.declared.serve_fault.ServeRefusal.TheVariants as fault
use Rattle.counters_file.specs.Faults as counters
use Rattle.serving.specs.Texts.{cause_of, serving_text}

-- the cause that a server's log adds to the fault's text, if there is one
abbrev pub fault_cause : ServeRefusal → Option (List ℕ)
fault_cause (fault.Counters fault) = None
fault_cause (fault.Serving fault) = cause_of fault

abbrev pub fault_text : ServeRefusal → List ℕ
fault_text (fault.Counters fault) = counters.fault_text fault
fault_text (fault.Serving fault) = serving_text fault
