-- The ruleset made of what was gathered is the one that is loaded.
use Rattle.std.proofs.Common.{◌≡◌, ℕ, List, All, Some, ap, sym, ◌∙◌, subst}
use Rattle.bounded_files.specs.Files.{KnownFiles, Gives, regular_files}
use Rattle.bpf_semantics.specs.Program.{ShapedProgram}
use Rattle.cells.specs.Apart.{NumberedArraysAreNamed}
use Rattle.cells.specs.Directory.{IsDirectory}
use Rattle.cells.specs.declared.array.CellArray.{CellArray}
use Rattle.declarations.specs.Order.{AreDeclared}
use Rattle.ruleset.specs.Rules.{AppRule, HasDuplicate, KnowsOnly, Rules, appids_of}
use Rattle.load.specs.Apps.{AreAppsOf}
use Rattle.load.specs.Digest.{digest_of}
use Rattle.load.specs.Folder.{files_in_folder}
use Rattle.load.specs.Sources.{AreSources, HasItsReleases}
use Rattle.load.specs.Judged.{AreJudged, IsLoadOf, apps_of}
use Rattle.load.specs.JudgedApps.{IsJudgedApp, IsJudgedOf, app_rules, programs_of, ruleset_of}
use Rattle.load.specs.JudgedApps.{sources_of}
use Rattle.load.specs.Load.{IsRulesetOf}
use Rattle.load.specs.Loaded.{IsLoadedFrom}
use Rattle.load.specs.Made.{SourcesAreMade, IsMadeFrom, IsMadeOf, IsMadeOver}
use Rattle.load.specs.Opened.{OpenedIsMade}
use Rattle.load.specs.declared.judged.JudgedManifest.{JudgedManifest}
use Rattle.load.specs.declared.sources.AppSources.{AppSources}
use Rattle.load.specs.declared.sources.Sources.{Sources}
use Rattle.ruleset.specs.declared.loaded.LoadedRuleset.{LoadedRuleset}
use Rattle.load.proofs.Gathers.{sources_are_loaded}
use Rattle.load.proofs.InTurn.{programs_judged, rules_are}
use Rattle.load.proofs.Knowing.{apps_know}
use Rattle.load.proofs.Names.{never_duplicate}

module _ (known : KnownFiles) (old : List CellArray) (bytes : List ℕ) (g : Sources)
    (is : AreSources known old bytes g) where
  of_programs : (programs : List ShapedProgram) → AreJudged g.apps.items programs
      → IsRulesetOf known old bytes
      (record { server = is.manifest.server; apps = apps_of g.apps.items programs }) g.directory
  of_programs programs judged =
      let load : IsLoadOf known old bytes g is = sources_are_loaded.manifest known old bytes g is in
      load.supplied programs judged

  once : (programs : List ShapedProgram) → AreJudged g.apps.items programs
      → ¬ HasDuplicate (appids_of (apps_of g.apps.items programs))
  once programs judged =
      let r = of_programs programs judged in
      never_duplicate known g.directory r.numbers r.manifest (apps_of g.apps.items programs)
      r.read.1
      r.apps_are

  is_ruleset : (made : LoadedRuleset) → IsMadeOf bytes g made
      → IsRulesetOf known old bytes made.rules made.directory
  is_ruleset made m =
      let r = of_programs m.programs m.judged in
      let apps = subst
      (λ (apps : List AppRule). AreAppsOf known g.directory r.numbers r.manifest.apps apps)
      (sym m.apps_are) r.apps_are in
      record {
        manifest = r.manifest;
        read = r.read;
        numbers = r.numbers;
        declared = subst
            (λ (d : List CellArray). AreDeclared old r.manifest.arrays r.numbers d)
            (sym m.directory_is) r.declared;
        server_is = m.server_is ∙ is.server_is ∙ r.server_is;
        apps_are = subst
            (λ (d : List CellArray). AreAppsOf known d r.numbers r.manifest.apps made.rules.apps)
            (sym m.directory_is) apps;
      }

pub sources_are_made : SourcesAreMade
sources_are_made = λ known old bytes g is. record {
  once = once known old bytes g is;
  made = is_ruleset known old bytes g is;
}

-- the programs of a ruleset know only the arrays of the directory after it
pub knows : NumberedArraysAreNamed → (known : KnownFiles) (old : List CellArray) (bytes : List ℕ)
    (rules : Rules) (new : List CellArray) → IsDirectory new
    → IsRulesetOf known old bytes rules new → KnowsOnly new rules
knows law known old bytes rules new directory r =
    apps_know law known new r.numbers directory.names r.manifest.apps rules.apps r.apps_are

-- ---- the ruleset of a judged manifest

pub is_made_of : (bytes : List ℕ) (g : Sources) (j : JudgedManifest) → IsJudgedOf bytes g j
    → IsMadeOf bytes g (ruleset_of j)
is_made_of bytes g j is = record {
  programs = programs_of j.apps.items;
  judged = is.programs_are;
  server_is = is.server_is;
  apps_are = is.rules_are;
  directory_is = is.directory_is;
  digest_is = is.digest_is;
}

pub made_once : SourcesAreMade → (known : KnownFiles) (old : List CellArray) (bytes : List ℕ)
    (g : Sources) (j : JudgedManifest) → AreSources known old bytes g → IsJudgedOf bytes g j
    → ¬ HasDuplicate (appids_of (app_rules j.apps.items))
made_once makes known old bytes g j are is =
    subst (λ (apps : List AppRule). ¬ HasDuplicate (appids_of apps))
    (sym is.rules_are)
    ((makes known old bytes g are).once (programs_of j.apps.items) is.programs_are)

pub made_over : (known : KnownFiles) (old : List CellArray) (bytes : List ℕ) (g : Sources)
    (j : JudgedManifest) (made : LoadedRuleset) → AreSources known old bytes g
    → IsJudgedOf bytes g j → made ≡ ruleset_of j → IsMadeOver known old bytes made
made_over known old bytes g j made are is same = record {
  sources = g;
  are_sources = are;
  made_of = subst (λ (m : LoadedRuleset). IsMadeOf bytes g m) (sym same) (is_made_of bytes g j is);
}

pub made_shaped : (bytes : List ℕ) (g : Sources) (j : JudgedManifest) → IsJudgedOf bytes g j
    → All HasItsReleases g.apps.items → All HasItsReleases (sources_of j.apps.items)
made_shaped bytes g j is shaped =
    subst (λ (apps : List AppSources). All HasItsReleases apps) (sym is.sources_are) shaped

pub opened_is_made : OpenedIsMade
opened_is_made = λ known path j is. record {
  bytes = is.bytes;
  given = is.given;
  sources = is.sources;
  are_sources = is.are_sources;
  made_of = is_made_of is.bytes is.sources j is.judged_of;
}

pub judged_of : (bytes : List ℕ) (g : Sources) (j : JudgedManifest) → j.server ≡ g.server
    → j.arrays.items ≡ g.arrays.items → j.directory ≡ g.directory
    → sources_of j.apps.items ≡ g.apps.items → All IsJudgedApp j.apps.items
    → digest_of bytes g.apps.items ≡ Some j.digest → IsJudgedOf bytes g j
judged_of bytes g j server arrays directory sources each digest = record {
  server_is = server;
  arrays_are = arrays;
  directory_is = directory;
  sources_are = sources;
  apps_are = each;
  programs_are = subst (λ (l : List AppSources). AreJudged l (programs_of j.apps.items)) sources
      (programs_judged j.apps.items each);
  rules_are = rules_are j.apps.items
      ∙ ap (λ (apps : List AppSources). apps_of apps (programs_of j.apps.items)) sources;
  digest_is = digest;
}

-- ---- at a path

pub is_loaded : (known : KnownFiles) (path : List ℕ) (old : List CellArray) (made : LoadedRuleset)
    → IsMadeFrom known path old made → IsLoadedFrom known path old made.rules made.directory
is_loaded known path old made from = record {
  bytes = from.bytes;
  given = from.given;
  loaded = is_ruleset (files_in_folder known path) old from.bytes from.sources from.are_sources made
      from.made_of;
}

pub from_path : (known : KnownFiles) (path : List ℕ) (old : List CellArray) (bytes file : List ℕ)
    (made : LoadedRuleset) → bytes ≡ file → Gives (regular_files known) path (Some file)
    → IsMadeOver (files_in_folder known path) old bytes made → IsMadeFrom known path old made
from_path known path old bytes file made same given over = record {
  bytes = bytes;
  given = subst (λ (b : List ℕ). Gives (regular_files known) path (Some b)) (sym same) given;
  sources = over.sources;
  are_sources = over.are_sources;
  made_of = over.made_of;
}
