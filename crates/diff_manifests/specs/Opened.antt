-- Two manifests as they are opened: each as by a load on a server without arrays.
use Rattle.std.specs.Prelude.{ℕ, List, [], All, map}
use Rattle.bounded_files.specs.Files.{KnownFiles}
use Rattle.load.specs.JudgedApps.{IsJudgedApp}
use Rattle.load.specs.Loaded.{RefusesPath}
use Rattle.load.specs.Opened.{IsOpened}
use Rattle.load.specs.declared.judged.JudgedApp.{JudgedApp}
use Rattle.load.specs.declared.judged.JudgedManifest.{JudgedManifest}
use Rattle.diff_manifests.specs.declared.diff_fault.DiffFault.{DiffFault}
use Rattle.diff_manifests.specs.declared.diff_fault.DiffFault.TheVariants as fault
use Rattle.diff_manifests.specs.declared.opened.OpenedBoth.{OpenedBoth}

-- the appids of a manifest's apps, in its order
abbrev pub manifest_appids : JudgedManifest → List (List ℕ)
manifest_appids o = map (λ (app : JudgedApp). app.sources.entry.appid) o.apps.items

abbrev pub AreOpened : KnownFiles → (old new : List ℕ) → OpenedBoth → Type 0
AreOpened known old new both = IsOpened known old both.old × IsOpened known new both.new

-- OLD can't be loaded; or it can, and NEW can't
abbrev pub IsOpenFault : KnownFiles → (old new : List ℕ) → DiffFault → Type 0
IsOpenFault known old new (fault.Old why) = RefusesPath known old [] why
IsOpenFault known old new (fault.New why) =
    (o : JudgedManifest) × IsOpened known old o × RefusesPath known new [] why
IsOpenFault known old new why = ⊥

-- each app of both has a program, and its rule, if its file has one
pub record AreKept (both : OpenedBoth) : Type 0 where
  pub old_apps : All IsJudgedApp both.old.apps.items
  pub new_apps : All IsJudgedApp both.new.apps.items
