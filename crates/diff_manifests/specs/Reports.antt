-- The comparison of two manifests, app by app.
use Rattle.std.specs.Prelude.{◌≡◌, ℕ, List, ◌++◌, map, All, Option, Some, None}
use Rattle.std.specs.Prelude.{Bool, true, not, ◌||◌, ◌==◌, length}
use Rattle.std.specs.List.{filter, list_any}
use Rattle.std.specs.Str.{bytes_eq}
use Rattle.std.specs.String.{string_bytes}
use Rattle.diff_space.specs.declared.bounds.CellBound.{CellBound}
use Rattle.diff_space.specs.Scopes.{Scope}
use Rattle.load.specs.JudgedApps.{app_named}
use Rattle.load.specs.declared.judged.JudgedApp.{JudgedApp}
use Rattle.diff_manifests.specs.Arrays.{array_changes}
use Rattle.diff_manifests.specs.Opened.{manifest_appids}
use Rattle.diff_manifests.specs.Outcomes.{IsOutcome, app_loses, change_of}
use Rattle.diff_manifests.specs.declared.opened.OpenedBoth.{OpenedBoth}
use Rattle.diff_manifests.specs.declared.app_diff.AppDiff.{AppDiff}

-- ---- which apps

-- all apps, or one
abbrev pub is_reported : (only : Option (List ℕ)) → (appid : List ℕ) → Bool
is_reported None appid = true
is_reported (Some only) appid = bytes_eq only appid

abbrev pub has_appid : List (List ℕ) → (appid : List ℕ) → Bool
has_appid appids appid = list_any (λ other. bytes_eq other appid) appids

-- those of OLD that NEW lacks
abbrev pub gone_appids : OpenedBoth → List (List ℕ)
gone_appids both =
    filter (λ appid. not (has_appid (manifest_appids both.new) appid)) (manifest_appids both.old)

-- the apps of NEW, in its order, and then those that are gone
abbrev pub reported_appids : Option (List ℕ) → OpenedBoth → List (List ℕ)
reported_appids only both =
    filter (is_reported only) (manifest_appids both.new) ++ filter (is_reported only)
    (gone_appids both)

abbrev pub have_app : OpenedBoth → (appid : List ℕ) → Bool
have_app both appid =
    has_appid (manifest_appids both.new) appid || has_appid (manifest_appids both.old) appid

-- ---- their comparison

-- for machines from a day on, while these cells have at least these values
module _ (both : OpenedBoth) (from_day : ℕ) (used : List CellBound) where
  abbrev pub scope_for : AppDiff → Scope
  scope_for d = record { appid = string_bytes d.appid; from_day = from_day; used = used }

  -- the app in OLD, and in NEW
  abbrev pub old_app : AppDiff → Option JudgedApp
  old_app d = app_named both.old.apps.items (string_bytes d.appid)

  abbrev pub new_app : AppDiff → Option JudgedApp
  new_app d = app_named both.new.apps.items (string_bytes d.appid)

  pub record IsAppDiff (d : AppDiff) : Type 0 where
    pub change_is : d.change ≡ change_of (old_app d) (new_app d)
    pub outcome_is : IsOutcome (scope_for d) (old_app d) (new_app d) d.outcome

  pub record AreAppDiffs (only : Option (List ℕ)) (apps : List AppDiff) : Type 0 where
    pub all : map (λ d. string_bytes d.appid) apps ≡ reported_appids only both
    pub each : All IsAppDiff apps

-- ---- what is lost

abbrev pub loses : AppDiff → Bool
loses d = app_loses d.change d.outcome

-- whether an app may lose a release, or an array is declared differently
abbrev pub is_lossy : OpenedBoth → List AppDiff → Bool
is_lossy both apps =
    list_any loses apps
    || not (length (array_changes both.old.arrays.items
    both.new.arrays.items) == 0)
