-- The results of checking a manifest, which is loaded over no arrays. All are defined by what was
-- gathered: for each file of an app, the same bytes are judged, shown and tested for warnings.
use Rattle.std.specs.Prelude.{◌≡◌, ◌<◌, ℕ, List, [], length}
use Rattle.cells.specs.Directory.{Declaration}
use Rattle.why_refused_manifest.specs.Reported.{ReportsRefused}
use Rattle.why_refused_manifest.specs.Warned.{WarnsOf}
use Rattle.why_refused_manifest.specs.declared.accepted.CheckedManifest.{CheckedManifest}
use Rattle.why_refused_manifest.specs.declared.refused.Refused.{Refused}
use Rattle.bounded_files.specs.Files.{KnownFiles}
use Rattle.load.specs.Sources.{AreArraysWithFault, AreSources, IsParsedWithFault}
use Rattle.load.specs.Judged.{RefusesFirst}
use Rattle.load.specs.JudgedApps.{IsJudgedOf, app_rules}
use Rattle.load.specs.Load.{IsRulesetOf, IsLoadFault}
use Rattle.load.specs.declared.load_fault.LoadFault.{LoadFault}
use Rattle.load.specs.declared.judged.JudgedManifest.{JudgedManifest}
use Rattle.load.specs.declared.sources.Sources.{Sources}
use Rattle.load.specs.declared.sources.AppSources.{AppSources}
use Rattle.manifest.specs.declared.refused.Parsed.{Parsed}
use Rattle.manifest.specs.declared.refused.Parsed.TheVariants.{Nothing}
use Rattle.ruleset.specs.Rules.{Rules}

-- ---- the gathered apps

-- the report has the arrays and the apps of a judged manifest, the warnings, and the digest
pub record ReportsJudged (j : JudgedManifest) (reported : CheckedManifest) : Type 0 where
  pub arrays_are : reported.arrays.items ≡ j.arrays.items
  pub apps_are : reported.apps.items ≡ app_rules j.apps.items
  pub warned : WarnsOf j reported.warnings.items
  pub digest_is : reported.digest ≡ j.digest

-- each app has its program, and its rule, if its file has one; the report is about these, and the
-- digest is that of the manifest's bytes and of its files
pub record PassesApps (bytes : List ℕ) (g : Sources) (reported : CheckedManifest) : Type 0 where
  pub judged : JudgedManifest
  pub judged_of : IsJudgedOf bytes g judged
  pub reports : ReportsJudged judged reported

-- the first app without a program has this fault; the report is about it, the further faults, and
-- the apps whose files aren't read
pub record FailsApps (g : Sources) (r : Refused) : Type 0 where
  pub refused : RefusesFirst g.apps.items r.fault
  pub reported : ReportsRefused Nothing g.arrays.items g.apps.items g.unread r

-- ---- the manifest

module _ (known : KnownFiles) (bytes : List ℕ) where
  -- it loads as a ruleset with these arrays and apps
  pub record PassesCheck (reported : CheckedManifest) : Type 0 where
    pub g : Sources
    pub sources : AreSources known [] bytes g
    pub passes : PassesApps bytes g reported
    pub rules : Rules
    pub loaded : IsRulesetOf known [] bytes rules g.directory
    pub arrays_are : reported.arrays.items ≡ sources.manifest.arrays
    pub apps_are : reported.apps.items ≡ rules.apps

  -- the arrays and apps that were gathered from a manifest with this fault, and how many apps have
  -- files that aren't read. Either the manifest has the fault whatever its files give, and these
  -- arrays are known then; or its first app without a program has it
  pub data IsReadUntil (fault : LoadFault) : List Declaration → List AppSources → (unread : ℕ)
      → Type 0 where
    no_file : {arrays : List Declaration} → ((any : KnownFiles) → IsLoadFault any [] bytes fault)
        → AreArraysWithFault bytes fault arrays → IsReadUntil fault arrays [] 0
    files : (g : Sources) → AreSources known [] bytes g → RefusesFirst g.apps.items fault
        → IsReadUntil fault g.arrays.items g.apps.items g.unread

  -- it has this fault; the report is about it and the further faults, from what the bytes were
  -- parsed as and what was gathered, which has this fault
  pub record FailsCheck (r : Refused) : Type 0 where
    pub refused : IsLoadFault known [] bytes r.fault
    pub parsed : Parsed
    pub parsed_is : IsParsedWithFault bytes r.fault parsed
    pub arrays : List Declaration
    pub apps : List AppSources
    pub unread : ℕ
    pub read_until : IsReadUntil r.fault arrays apps unread
    pub reported : ReportsRefused parsed arrays apps unread r

-- every manifest of more than 1048576 bytes fails like this, whatever its files give
abbrev pub FailsIfLong : Refused → Type 0
FailsIfLong r =
    (known : KnownFiles) (bytes : List ℕ) → 1048576 < length bytes → FailsCheck known bytes r
