-- A ruleset: the apps of a server, in order, each with its program and its releases.
use Rattle.std.specs.Prelude.{◌≡◌, ℕ, ◌<◌, List, [], length, map, slice_index_or, All, Contains}
use Rattle.std.specs.Prelude.{Option, IsTrue}
use Rattle.std.specs.List.{find}
use Rattle.std.specs.Str.{bytes_eq}
use Rattle.attrs.specs.Attributes.{Attributes, AreShort}
use Rattle.bpf_semantics.specs.State.{opening}
use Rattle.bpf_semantics.specs.Program.{ShapedProgram}
use Rattle.bpf_verify.specs.Covers.{EndsWell, IsCovered, StepsAreSafe}
use Rattle.cells.specs.Directory.{HasArray}
use Rattle.cells.specs.declared.array.CellArray.{CellArray}
use Rattle.releases.specs.Appid.{is_appid}
use Rattle.releases.specs.Release.{Release}

-- an app with its program and its releases
pub record AppRule : Type 0 where
  pub appid : List ℕ
  pub program : ShapedProgram
  pub releases : List Release

-- the app with another program
abbrev pub programmed : ShapedProgram → AppRule → AppRule
programmed program app = record app { program = program }

-- a server's name, and its apps in order
pub record Rules : Type 0 where
  pub server : List ℕ
  pub apps : List AppRule

-- the ruleset has this app, with this appid
pub record ListsApp (rules : Rules) (appid : List ℕ) (app : AppRule) : Type 0 where
  pub listed : Contains rules.apps app
  pub appid_is : app.appid ≡ appid

-- the ruleset has this program for the appid: that of its app
pub record Offers (rules : Rules) (appid : List ℕ) (program : ShapedProgram) : Type 0 where
  pub app : AppRule
  pub known : ListsApp rules appid app
  pub program_is : app.program ≡ program

-- the ruleset has no program for the appid
abbrev pub OffersNone : Rules → List ℕ → Type 0
OffersNone rules appid = (program : ShapedProgram) → ¬ Offers rules appid program

-- the ruleset has at most one app for an appid
abbrev pub HasOneApp : Rules → Type 0
HasOneApp rules = (appid : List ℕ) (a b : AppRule)
    → ListsApp rules appid a → ListsApp rules appid b → a ≡ b

-- the appid of the app that these attributes describe: the text with number 0
abbrev pub appid_of : Attributes → List ℕ
appid_of a = slice_index_or a.texts 0 []

-- the app with this appid
abbrev pub app_in : List AppRule → List ℕ → Option AppRule
app_in apps appid = find (λ app. bytes_eq app.appid appid) apps

-- the first app with this appid
abbrev pub app_of : Rules → List ℕ → Option AppRule
app_of rules appid = app_in rules.apps appid

abbrev pub appids_of : List AppRule → List (List ℕ)
appids_of apps = map (λ a. a.appid) apps

-- an appid occurs at two places
pub record HasDuplicate (appids : List (List ℕ)) : Type 0 where
  pub first : ℕ
  pub second : ℕ
  pub apart : first < second
  pub within : second < length appids
  pub same : slice_index_or appids first [] ≡ slice_index_or appids second []

-- for any attributes with short texts, a run of the program ends with 0 or one of its releases
unfoldable pub AlwaysEndsWell : ShapedProgram → Type 0
AlwaysEndsWell program = (a : Attributes) → AreShort a.texts → EndsWell program (opening a)

-- a program's choices are the releases of its app
abbrev pub ChoosesAmong : ShapedProgram → List Release → Type 0
ChoosesAmong program releases = length releases ≡ program.shape.releases

-- the invariant of an app: its appid is valid; each run of its program starts in a covered state,
-- each step from a covered state is safe, and the whole run ends well; and its program chooses
-- among its releases
pub record IsApp (app : AppRule) : Type 0 where
  pub named : IsTrue (is_appid app.appid)
  pub opens : (a : Attributes) → AreShort a.texts → IsCovered app.program (opening a)
  pub sound : StepsAreSafe app.program
  pub ends : AlwaysEndsWell app.program
  pub all : ChoosesAmong app.program app.releases

-- the invariant of a ruleset's apps
pub record AppsAreKept (apps : List AppRule) : Type 0 where
  pub once : ¬ HasDuplicate (appids_of apps)
  pub each : All IsApp apps

-- what a ruleset guarantees for its runs: at most one app for an appid, and each app's invariant
pub record IsRuleset (rules : Rules) : Type 0 where
  pub one : HasOneApp rules
  pub each : All IsApp rules.apps

-- the ruleset's programs know only these arrays
abbrev pub KnowsOnly : List CellArray → Rules → Type 0
KnowsOnly arrays rules = All (λ app. All (HasArray arrays) app.program.shape.arrays) rules.apps
