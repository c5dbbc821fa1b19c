-- A server with the counters of a file is refused.
use Rattle.std.proofs.Common.{◌≡◌, ℕ, List, Some, inr, subst, sym}
use Rattle.std.specs.Borrow.{Bor}
use Rattle.bounded_files.specs.Files.{KnownFiles}
use Rattle.cells.specs.Events.{AreCells}
use Rattle.cli_words.specs.declared.request.ServeArgs.{ServeArgs}
use Rattle.cli_commands.specs.Ready.{AreOfFile, IsRefused}
use Rattle.cli_commands.specs.declared.serve_fault.ServeRefusal.TheVariants.{Serving}
use Rattle.server_counters.specs.declared.counters.Counters.{Counters}
use Rattle.serving.specs.Manifests.{RefusesToServe}
use Rattle.serving.specs.declared.serving_fault.ServingFault.{ServingFault}

pub refused_with : (known : KnownFiles) (args : ServeArgs) (path : Bor (List ℕ)) (c : Counters)
    (fault : ServingFault) → args.counters ≡ Some path → AreCells c.values.items
    → RefusesToServe known args.manifest.now c.directory fault
    → IsRefused known args (Serving fault)
refused_with known args path c fault named cells refused =
    (Some c, (subst (λ path. AreOfFile path (Some c)) (sym named) cells, inr refused))
