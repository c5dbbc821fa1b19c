-- A server that is ready by the arguments of `serve`, and why there is none.
use Rattle.std.specs.Prelude.{◌≡◌, ◌⊎◌, ℕ, List, [], Option, Some, None, IsSome, string_bytes}
use Rattle.std.specs.Borrow.{Bor}
use Rattle.bounded_files.specs.Files.{KnownFiles}
use Rattle.cells.specs.declared.array.CellArray.{CellArray}
use Rattle.cells.specs.Events.{AreCells, AreZeros}
use Rattle.cli_words.specs.declared.request.ServeArgs.{ServeArgs}
use Rattle.cli_commands.specs.declared.serve_fault.ServeRefusal.{ServeRefusal}
use Rattle.cli_commands.specs.declared.serve_fault.ServeRefusal.TheVariants as fault
use Rattle.load.specs.Loaded.{IsLoadedFrom}
use Rattle.load.specs.Made.{IsMadeFrom}
use Rattle.server_counters.specs.declared.counters.Counters.{Counters}
use Rattle.serving.specs.Manifests.{RefusesToServe}
use Rattle.serving.specs.Staffed.{IsStaffFault}
use Rattle.serving.specs.declared.server.Server.{Server}
use Rattle.serving.specs.declared.serving_fault.ServingFault.{ServingFault}

-- there are counters, which fit their cells, exactly if a file is named for them
abbrev pub AreOfFile : (path : Option (Bor (List ℕ))) → Option Counters → Type 0
AreOfFile (Some path) (Some c) = AreCells c.values.items
AreOfFile None None = Unit {0}
AreOfFile path counters = ⊥

-- the arrays of counters, or none
abbrev pub declared_by : Option Counters → List CellArray
declared_by None = []
declared_by (Some c) = c.directory

-- a server opens with the halted apps and the values of these counters, or with none and zeros
abbrev pub Opens : Option Counters → Server → Type 0
Opens None server = (server.halted.items ≡ []) × AreZeros 8192 server.values.items
Opens (Some c) server = (server.halted ≡ c.halted) × (server.values ≡ c.values)

module _ (known : KnownFiles) (args : ServeArgs) (counters : Option Counters) where
  -- the server of the manifest, which was loaded over the arrays of these counters, and opens with
  -- them
  pub record IsReady (server : Server) : Type 0 where
    pub of_file : AreOfFile args.counters counters
    pub loaded : IsLoadedFrom known args.manifest.now (declared_by counters) server.loaded.rules
        server.loaded.directory
    pub path : string_bytes server.path ≡ args.manifest.now
    pub made : IsMadeFrom known args.manifest.now (declared_by counters) server.loaded
    pub opens : Opens counters server

  -- why there is no such server
  abbrev pub IsStartRefusal : ServingFault → Type 0
  IsStartRefusal fault =
      AreOfFile args.counters counters
      × (IsStaffFault fault ⊎ RefusesToServe known args.manifest.now (declared_by counters) fault)

-- why no server is ready: the file of its counters is refused, or else the server with them
abbrev pub IsRefused : KnownFiles → ServeArgs → ServeRefusal → Type 0
IsRefused known args (fault.Counters refused) = IsSome args.counters
IsRefused known args (fault.Serving refused) =
    (c : Option Counters) × IsStartRefusal known args c refused
