-- A manifest in place that can't be gathered.
use Rattle.std.proofs.Common.{◌≡◌, ◌∙◌, sym, ℕ, List, [], Bool, true}
use Rattle.std.specs.Prelude.{None}
use Rattle.bounded_files.specs.Files.{KnownFiles}
use Rattle.load.specs.Loaded.{RefusesPath}
use Rattle.load.specs.declared.load_fault.PathFault.{PathFault}
use Rattle.stage_servers.specs.Gathered.{IsGathered, precedes_files}

pub not_gathered : (known : KnownFiles) (current : List ℕ) (fault : PathFault) (first : Bool)
    → RefusesPath known current [] fault → first ≡ precedes_files fault → first ≡ true
    → IsGathered known current None
not_gathered known current fault first refused is so = (fault, refused, sym is ∙ so)
