-- How a refused event is printed: its number and its name.
use Rattle.std.specs.Prelude.{ℕ, List, codes}
use Rattle.world.specs.declared.event.WorldFault.{WorldFault}
use Rattle.world.specs.declared.event.WorldFault.TheVariants.{NoWorker, Busy, Idle, NoApp, NotDone}
use Rattle.world.specs.declared.event.WorldFault.TheVariants.{Memory}

abbrev pub fault_text : WorldFault → List ℕ
fault_text NoWorker = codes "E1 NoWorker"
fault_text Busy = codes "E2 Busy"
fault_text Idle = codes "E3 Idle"
fault_text NoApp = codes "E4 NoApp"
fault_text NotDone = codes "E5 NotDone"
fault_text Memory = codes "E6 Memory"
