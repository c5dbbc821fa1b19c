-- From what was gathered and judged to the report.
use Rattle.std.proofs.Common.{◌≡◌, ℕ, List, [], ◌++◌, length, ◌∙◌, ap, subst}
use Rattle.std.proofs.Common.{All, refl, sym, inl}
use Rattle.why_refused_manifest.specs.Check.{FailsApps, FailsCheck}
use Rattle.why_refused_manifest.specs.Check.{PassesApps, PassesCheck, ReportsJudged}
use Rattle.why_refused_manifest.specs.Check.{files, no_file}
use Rattle.why_refused_manifest.specs.Reported.{ReportsRefused}
use Rattle.why_refused_manifest.specs.ArrayWarnings.{array_warnings}
use Rattle.why_refused_manifest.specs.Warned.{WarnsOfApps}
use Rattle.why_refused_manifest.specs.declared.accepted.CheckedManifest.{CheckedManifest}
use Rattle.why_refused_manifest.specs.declared.refused.Refused.{Refused}
use Rattle.bounded_files.specs.Files.{KnownFiles}
use Rattle.cells.specs.declared.array.CellArray.{CellArray}
use Rattle.load.specs.Sources.{AreArraysWithFault, AreSources, HasItsReleases}
use Rattle.load.specs.Sources.{IsParsedWithFault, IsSourcesRefusal}
use Rattle.load.specs.Judged.{IsLoadOf, RefusesFirst, apps_of}
use Rattle.load.specs.JudgedApps.{IsJudgedOf, app_rules, programs_of, sources_of}
use Rattle.load.specs.Load.{IsLoadFault}
use Rattle.load.specs.declared.load_fault.LoadFault.{LoadFault}
use Rattle.load.specs.declared.load_fault.LoadFault.TheVariants.{Manifest as NoManifest, File}
use Rattle.load.specs.declared.load_fault.LoadFault.TheVariants.{Program}
use Rattle.load.specs.declared.load_fault.LoadFault.TheVariants.{Rule, Cells, Memory}
use Rattle.load.specs.declared.judged.JudgedApp.{JudgedApp}
use Rattle.load.specs.declared.judged.JudgedManifest.{JudgedManifest}
use Rattle.load.specs.declared.sources.Sources.{Sources}
use Rattle.load.specs.declared.sources.AppSources.{AppSources}
use Rattle.load.specs.declared.refusal.SourcesRefusal.{SourcesRefusal}
use Rattle.manifest.specs.declared.refused.Parsed.TheVariants.{Nothing}
use Rattle.ruleset.specs.Rules.{AppRule}
use Rattle.warnings.specs.RuleWarnings.{whole_budget}
use Rattle.warnings.specs.declared.warning.Warning.{Warning}

pub reports_judged : (j : JudgedManifest) (reported : CheckedManifest)
    (lent_apps : List JudgedApp) (by_rule lent : List Warning) (directory : List CellArray)
    (other : List AppRule) → lent_apps ≡ j.apps.items
    → directory ≡ j.directory → reported.arrays.items ≡ j.arrays.items
    → other ≡ reported.apps.items → reported.apps.items ≡ app_rules j.apps.items
    → WarnsOfApps 1 whole_budget lent_apps by_rule → lent ≡ by_rule
    → reported.warnings.items ≡ array_warnings 0 directory other ++ lent
    → reported.digest ≡ j.digest → ReportsJudged j reported
reports_judged j reported lent_apps by_rule lent directory other lent_are directory_is arrays_are
    other_are apps_are of_apps same warnings_are digest_is = record {
      arrays_are = arrays_are;
      apps_are = apps_are;
      warned = record {
        reported = by_rule;
        of_apps = subst (λ (l : List JudgedApp). WarnsOfApps 1 whole_budget l by_rule) lent_are
            of_apps;
        warnings_are = warnings_are
            ∙ ap (λ (l : List CellArray). array_warnings 0 l other ++ lent) directory_is
            ∙ ap (λ (l : List AppRule). array_warnings 0 j.directory l ++ lent)
            (other_are ∙ apps_are)
            ∙ ap (λ t. array_warnings 0 j.directory (app_rules j.apps.items) ++ t) same;
      };
      digest_is = digest_is;
    }

pub passes_apps : (bytes : List ℕ) (g : Sources) (j : JudgedManifest) (reported : CheckedManifest)
    → IsJudgedOf bytes g j → ReportsJudged j reported → PassesApps bytes g reported
passes_apps bytes g j reported is reports =
    record { judged = j; judged_of = is; reports = reports }

pub judged_shaped : (bytes : List ℕ) (g : Sources) (j : JudgedManifest) → IsJudgedOf bytes g j
    → All HasItsReleases g.apps.items → All HasItsReleases (sources_of j.apps.items)
judged_shaped bytes g j is shaped =
    subst (λ (apps : List AppSources). All HasItsReleases apps) (sym is.sources_are) shaped

-- with an app's fault nothing was parsed
none_parsed : (bytes : List ℕ) (apps : List AppSources) (fault : LoadFault)
    → RefusesFirst apps fault → IsParsedWithFault bytes fault Nothing
none_parsed bytes apps (NoManifest fault) refuses = absurd refuses
none_parsed bytes apps (File number) refuses = refl
none_parsed bytes apps (Program number fault) refuses = refl
none_parsed bytes apps (Rule number fault) refuses = refl
none_parsed bytes apps (Cells number fault) refuses = refl
none_parsed bytes apps Memory refuses = refl

module _ (known : KnownFiles) (bytes : List ℕ) (g : Sources) (is : AreSources known [] bytes g)
    (load : IsLoadOf known [] bytes g is) where
  pub passes : (reported : CheckedManifest) → PassesApps bytes g reported
      → PassesCheck known bytes reported
  passes reported h =
      let programs = programs_of h.judged.apps.items in
      record {
        g = g;
        sources = is;
        passes = h;
        rules = record { server = is.manifest.server; apps = apps_of g.apps.items programs };
        loaded = load.supplied programs h.judged_of.programs_are;
        arrays_are = h.reports.arrays_are ∙ h.judged_of.arrays_are ∙ is.arrays_are;
        apps_are = h.reports.apps_are ∙ h.judged_of.rules_are;
      }

  pub fails : (r : Refused) → FailsApps g r → FailsCheck known bytes r
  fails r h = record {
    refused = load.refused r.fault h.refused;
    parsed = Nothing;
    parsed_is = none_parsed bytes g.apps.items r.fault h.refused;
    arrays = g.arrays.items;
    apps = g.apps.items;
    unread = g.unread;
    read_until = files g is h.refused;
    reported = h.reported;
  }

pub fails_early : (known : KnownFiles) (bytes : List ℕ) (u : SourcesRefusal) (r : Refused)
    → IsSourcesRefusal [] bytes u → r.fault ≡ u.fault
    → ReportsRefused u.parsed u.arrays.items [] 0 r
    → FailsCheck known bytes r
fails_early known bytes u r h is reported = record {
  refused = subst (λ (f : LoadFault). IsLoadFault known [] bytes f) (sym is) (h.fault_is known);
  parsed = u.parsed;
  parsed_is = subst (λ (f : LoadFault). IsParsedWithFault bytes f u.parsed) (sym is) h.parsed_is;
  arrays = u.arrays.items;
  apps = [];
  unread = 0;
  read_until = no_file (λ any.
      subst (λ (f : LoadFault). IsLoadFault any [] bytes f) (sym is) (h.fault_is any))
      (subst (λ (f : LoadFault). AreArraysWithFault bytes f u.arrays.items) (sym is) h.arrays_are);
  reported = reported;
}

-- the fault of the first app without a program, and the report on it
pub fails_by : (g back : Sources) (fault : LoadFault) (r : Refused)
    → RefusesFirst g.apps.items fault → back ≡ g → r.fault ≡ fault
    → ReportsRefused Nothing back.arrays.items back.apps.items back.unread r → FailsApps g r
fails_by g back fault r refuses same is reported = record {
  refused = subst (λ (f : LoadFault). RefusesFirst g.apps.items f) (sym is) refuses;
  reported = subst
      (λ (s : Sources). ReportsRefused Nothing s.arrays.items s.apps.items s.unread r) same
      reported;
}

-- out of memory, with no further fault
pub nothing_reported : (g : Sources) (r : Refused) → r.fault ≡ Memory → r.further.items ≡ []
    → r.left_out ≡ 0 → r.read ≡ length g.apps.items → r.unread ≡ g.unread → FailsApps g r
nothing_reported g r is further left_out read unread = record {
  refused = subst (λ (f : LoadFault). RefusesFirst g.apps.items f) (sym is) tt;
  reported = record {
    further = inl (further, left_out);
    read_is = read;
    unread_is = unread;
  };
}
