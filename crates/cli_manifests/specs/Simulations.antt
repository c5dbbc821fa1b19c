-- Manifests that are simulated: each is loaded over no arrays and evaluated for the clients in all
-- buckets. Running out of memory is always allowed.
use Rattle.std.specs.Prelude.{◌≡◌, ℕ, List, [], Option, Some, None, IsSome, is_none}
use Rattle.std.specs.Prelude.{option_copied}
use Rattle.std.specs.Prelude.{Bool, true, false, is_some}
use Rattle.std.specs.String.{string_bytes}
use Rattle.simulate.specs.Moving.{is_lossy}
use Rattle.json_value.specs.Bytes.{json_line}
use Rattle.simulate.specs.Objects.{comparison_object, simulation_object}
use Rattle.simulate.specs.Picked.{HasPicked}
use Rattle.simulate.specs.Shown.{Simulation}
use Rattle.simulate.specs.Course.{IsSimulated}
use Rattle.simulate.specs.declared.client.Client.{Client}
use Rattle.markup.specs.WellFormed.{HasPicture}
use Rattle.load.specs.Loaded.{IsLoadedFrom, RefusesPath}
use Rattle.bounded_files.specs.Files.{KnownFiles}
use Rattle.bounded_files.specs.declared.resource_fault.ResourceFault.TheVariants as resource
use Rattle.load.specs.declared.load_fault.PathFault.{PathFault}
use Rattle.cells.specs.declared.array.CellArray.{CellArray}
use Rattle.ruleset.specs.Rules.{Rules, app_in}
use Rattle.cli_manifests.specs.declared.manifest_tool_fault.ManifestToolFault.{ManifestToolFault}
use Rattle.cli_manifests.specs.declared.manifest_tool_fault.ManifestToolFault.TheVariants as fault
use Rattle.cli_manifests.specs.declared.simulation_options.SimulationOptions.{SimulationOptions}
use Rattle.cli_manifests.specs.declared.simulation_output.SimulationOutput.{SimulationOutput}

-- ---- the report on rulesets

-- what the clients in all buckets get by a ruleset
pub record IsSimulationOfAll (client : Client) (rules : Rules) (s : Simulation) : Type 0 where
  pub apps_are : s.apps ≡ rules.apps
  pub simulated : IsSimulated client rules.apps s.chosen

-- the simulation of all its apps, or of the app with this appid
abbrev pub IsSimulationBy : Client → Rules → (appid : Option (List ℕ)) → Simulation → Type 0
IsSimulationBy client rules None s = IsSimulationOfAll client rules s
IsSimulationBy client rules (Some appid) s = HasPicked client rules.apps appid s

-- the ruleset lacks the one app that is to be reported
abbrev pub lacks_app : (appid : Option (List ℕ)) → Rules → Bool
lacks_app None rules = false
lacks_app (Some appid) rules = is_none (app_in rules.apps appid)

-- how many get which release of each app, as JSON. No clause says how the tables look
abbrev pub IsTextAlone : (json : Bool) → Simulation → List ℕ → Type 0
IsTextAlone false next text = Unit {0}
IsTextAlone true next text = text ≡ json_line (simulation_object next)

-- the same, and how many move from which release to which
abbrev pub IsTextAgainst : (json : Bool) → (now next : Simulation) → List ℕ → Type 0
IsTextAgainst false now next text = Unit {0}
IsTextAgainst true now next text = text ≡ json_line (comparison_object now next)

-- the report on a simulation, and a picture, if a file is named for it
pub record FormatsAlone (next : Simulation) (options : SimulationOptions)
    (output : SimulationOutput) : Type 0 where
  pub text_is : IsTextAlone options.json next (string_bytes output.text)
  pub picture : HasPicture (is_some (option_copied options.picture)) output.picture
  pub loses_is : output.loses ≡ false

-- compared with another one
pub record FormatsAgainst (next now : Simulation) (options : SimulationOptions)
    (output : SimulationOutput) : Type 0 where
  pub text_is : IsTextAgainst options.json now next (string_bytes output.text)
  pub picture : HasPicture (is_some (option_copied options.picture)) output.picture
  pub loses_is : output.loses ≡ is_lossy now next

module _ (client : Client) (options : SimulationOptions) where
  -- what the clients get by a ruleset, of the reported apps
  abbrev pub IsReported : Rules → Simulation → Type 0
  IsReported rules s = IsSimulationBy client rules (option_copied options.appid) s

  -- the report on a single ruleset
  pub record ShowsAlone (rules : Rules) (output : SimulationOutput) : Type 0 where
    pub next : Simulation
    pub simulated : IsReported rules next
    pub formats : FormatsAlone next options output

  -- the report on a ruleset compared with another one
  pub record ShowsAgainst (rules serving : Rules) (output : SimulationOutput) : Type 0 where
    pub next : Simulation
    pub simulated : IsReported rules next
    pub now : Simulation
    pub served : IsReported serving now
    pub formats : FormatsAgainst next now options output

-- ---- manifests

module _ (known : KnownFiles) where
  -- the ruleset of a manifest
  abbrev pub IsLoadedAlone : (path : List ℕ) → Rules → Type 0
  IsLoadedAlone path rules = (arrays : List CellArray) × IsLoadedFrom known path [] rules arrays

  -- the ruleset of the manifest, which has the one app that is to be reported
  abbrev pub IsLoadedFor : SimulationOptions → Rules → Type 0
  IsLoadedFor options rules =
      IsLoadedAlone options.manifest.now rules
      × (lacks_app (option_copied options.appid) rules ≡ false)

  -- the report, alone or compared with the manifest of a path, and its picture
  abbrev pub HasReport : (against : Option (List ℕ)) → Client → SimulationOptions
      → SimulationOutput → Type 0
  HasReport None client options output =
      (rules : Rules) × IsLoadedFor options rules × ShowsAlone client options rules output
  HasReport (Some path) client options output =
      (rules : Rules) × IsLoadedFor options rules
      × (serving : Rules) × IsLoadedAlone path serving
      × ShowsAgainst client options rules serving output

  abbrev pub HasSimulated : Client → SimulationOptions → SimulationOutput → Type 0
  HasSimulated client options output =
      HasReport (option_copied options.against) client options output

  -- the other manifest can't be loaded, and the first one can
  abbrev pub RefusesAgainst : (against : Option (List ℕ)) → SimulationOptions → PathFault → Type 0
  RefusesAgainst None options why = ⊥
  RefusesAgainst (Some path) options why =
      (rules : Rules) × IsLoadedFor options rules × RefusesPath known path [] why

  -- the manifest is loaded, and lacks the app
  abbrev pub LacksApp : SimulationOptions → Type 0
  LacksApp options =
      (rules : Rules) × IsLoadedAlone options.manifest.now rules
      × (lacks_app (option_copied options.appid) rules ≡ true)

  -- a manifest can't be loaded, or the first lacks the app
  abbrev pub IsLoadRefusal : SimulationOptions → ManifestToolFault → Type 0
  IsLoadRefusal options (fault.Load why) = RefusesPath known options.manifest.now [] why
  IsLoadRefusal options fault.NoApp = LacksApp options
  IsLoadRefusal options (fault.Against why) =
      RefusesAgainst (option_copied options.against) options why
  IsLoadRefusal options (fault.Resource resource.Memory) = Unit {0}
  IsLoadRefusal options refused = ⊥

  -- a file is named for the picture, which can't be written; the manifests are loaded
  pub record IsPictureRefusal (client : Client) (options : SimulationOptions) : Type 0 where
    pub named : IsSome (option_copied options.picture)
    pub output : SimulationOutput
    pub simulated : HasSimulated client options output

  -- the manifests give no report, or the picture can't be written
  abbrev pub IsSimulationRefusal : Client → SimulationOptions → ManifestToolFault → Type 0
  IsSimulationRefusal client options (fault.Resource resource.File) =
      IsPictureRefusal client options
  IsSimulationRefusal client options refused = IsLoadRefusal options refused
