-- How the comparisons of apps are added, one after the other. No promise uses this.
use Rattle.std.specs.Prelude.{◌≡◌, ℕ, List, ◌++◌, map, All, Option, not}
use Rattle.std.specs.List.{filter}
use Rattle.std.specs.String.{string_bytes}
use Rattle.diff_space.specs.declared.bounds.CellBound.{CellBound}
use Rattle.diff_manifests.specs.Opened.{manifest_appids}
use Rattle.diff_manifests.specs.Reports.{IsAppDiff, has_appid, is_reported}
use Rattle.diff_manifests.specs.declared.opened.OpenedBoth.{OpenedBoth}
use Rattle.diff_manifests.specs.declared.app_diff.AppDiff.{AppDiff}

-- those of these appids that NEW lacks
abbrev pub gone_among : OpenedBoth → List (List ℕ) → List (List ℕ)
gone_among both appids = filter (λ appid. not (has_appid (manifest_appids both.new) appid)) appids

module _ (both : OpenedBoth) (from_day : ℕ) (used : List CellBound) where
  -- the comparisons of these appids are added, as far as they are reported
  pub record AddsDiffs (only : Option (List ℕ)) (appids : List (List ℕ))
      (before after : List AppDiff) : Type 0 where
    pub added : map (λ d. string_bytes d.appid) after
        ≡ map (λ d. string_bytes d.appid) before ++ filter (is_reported only) appids
    pub each : All (IsAppDiff both from_day used) before → All (IsAppDiff both from_day used) after

  -- the same, while those of the appids in `left` are still to be added
  pub record AddsMore (only : Option (List ℕ)) (appids left : List (List ℕ))
      (before after : List AppDiff) : Type 0 where
    pub added : map (λ d. string_bytes d.appid) after ++ filter (is_reported only) left
        ≡ map (λ d. string_bytes d.appid) before ++ filter (is_reported only) appids
    pub each : All (IsAppDiff both from_day used) before → All (IsAppDiff both from_day used) after
