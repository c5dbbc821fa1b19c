-- The comparisons of the apps of NEW and of those that are gone are those of all.
use Rattle.std.proofs.Common.{◌≡◌, ◌∙◌, refl, sym, ap, subst, ℕ, List, [], ◌∷◌, ◌++◌, All, map}
use Rattle.std.specs.Prelude.{Bool, true, false, cond, is_some, ◌||◌, not, Contains}
use Rattle.std.specs.Prelude.{Option, Some, None}
use Rattle.std.specs.Prelude.{if◌then◌else◌}
use Rattle.std.specs.List.{filter, list_any}
use Rattle.std.specs.Str.{bytes_eq}
use Rattle.std.specs.String.{string_bytes}
use Rattle.std.proofs.lemmas.Bool.{or_left, or_right}
use Rattle.std.proofs.lemmas.List.Elements.{All-append, All-cons, All-contains, All-nil}
use Rattle.std.proofs.lemmas.List.{map-append}
use Rattle.std.proofs.lemmas.List.Folds.{Any-from_list_any, list_any-append}
use Rattle.std.proofs.lemmas.Map.Views.{any-filter_same}
use Rattle.std.proofs.lemmas.Slice.Eq.{bytes_eq-Decides}
use Rattle.load.specs.JudgedApps.{app_named}
use Rattle.load.specs.declared.judged.JudgedApp.{JudgedApp}
use Rattle.diff_space.specs.declared.bounds.CellBound.{CellBound}
use Rattle.diff_manifests.specs.Opened.{manifest_appids}
use Rattle.diff_manifests.specs.Adding.{AddsDiffs}
use Rattle.diff_manifests.specs.NoRow.{IsReported}
use Rattle.diff_manifests.specs.Reports.{AreAppDiffs, IsAppDiff, gone_appids, has_appid, have_app}
use Rattle.diff_manifests.specs.Reports.{is_reported, reported_appids}
use Rattle.diff_manifests.specs.declared.opened.OpenedBoth.{OpenedBoth}
use Rattle.diff_manifests.specs.declared.app_diff.AppDiff.{AppDiff}

pub are_diffs : (both : OpenedBoth) (from_day : ℕ) (used : List CellBound)
    (only : Option (List ℕ)) (first all : List AppDiff)
    → AddsDiffs both from_day used only (manifest_appids both.new) [] first
    → AddsDiffs both from_day used only (gone_appids both) first all
    → AreAppDiffs both from_day used only all
are_diffs both from_day used only first all kept gone = record {
  all = gone.added ∙ ap (λ (l : List (List ℕ)). l ++ filter (is_reported only) (gone_appids both))
      kept.added;
  each = gone.each (kept.each (All-nil (IsAppDiff both from_day used)));
}

pub adds_one : (both : OpenedBoth) (from_day : ℕ) (used : List CellBound)
    (only : Option (List ℕ)) (appid : List ℕ) (before after : List AppDiff) (d : AppDiff)
    → after ≡ before ++ (d ∷ []) → is_reported only appid ≡ true → string_bytes d.appid ≡ appid
    → IsAppDiff both from_day used d
    → AddsDiffs both from_day used only (appid ∷ []) before after
adds_one both from_day used only appid before after d is reported appid_is own = record {
  added = ap (λ (ds : List AppDiff). map (λ e. string_bytes e.appid) ds) is
      ∙ map-append (λ e. string_bytes e.appid) before (d ∷ [])
      ∙ ap (λ (l : List ℕ). map (λ e. string_bytes e.appid) before ++ (l ∷ [])) appid_is
      ∙ ap (λ (b : Bool). map (λ e. string_bytes e.appid) before
      ++ (if b then appid ∷ [] else [])) (sym reported);
  each = λ all. subst (λ (ds : List AppDiff). All (IsAppDiff both from_day used) ds) (sym is)
      (All-append (IsAppDiff both from_day used) before (d ∷ []) all
      (All-cons (IsAppDiff both from_day used) d [] own (All-nil (IsAppDiff both from_day used))));
}

-- ---- each app of either manifest is reported

found_appid : (appid : List ℕ) (apps : List JudgedApp)
    → is_some (app_named apps appid)
    ≡ has_appid (map (λ (app : JudgedApp). app.sources.entry.appid) apps) appid
found_appid appid [] = refl
found_appid appid (app ∷ apps) =
    elim (bytes_eq app.sources.entry.appid appid)
    as (λ b. is_some (cond b (Some app) (app_named apps appid))
    ≡ (b || has_appid (map (λ (app : JudgedApp). app.sources.entry.appid) apps) appid))
    [ true ↦ refl | false ↦ found_appid appid apps ]

-- whether the app is found is whether its appid is there
pub has_found : (appid : List ℕ) (apps : List JudgedApp) (found : Option JudgedApp)
    → found ≡ app_named apps appid → is_some found
    ≡ has_appid (map (λ (app : JudgedApp). app.sources.entry.appid) apps) appid
has_found appid apps found is = ap is_some is ∙ found_appid appid apps

either_has : (both : OpenedBoth) (appid : List ℕ) (new : Bool)
    → has_appid (manifest_appids both.new) appid ≡ new
    → (new || has_appid (manifest_appids both.old) appid) ≡ true
    → has_appid (reported_appids None both) appid ≡ true
either_has both appid true is any =
    let p = λ (other : List ℕ). bytes_eq other appid in
    list_any-append p (filter (is_reported None) (manifest_appids both.new))
    (filter (is_reported None) (gone_appids both))
    ∙ or_left _ _
    (any-filter_same p (is_reported None) true (λ x h. refl) (manifest_appids both.new) ∙ is)
either_has both appid false is any =
    let p = λ (other : List ℕ). bytes_eq other appid in
    let q = λ (other : List ℕ). not (has_appid (manifest_appids both.new) other) in
    list_any-append p (filter (is_reported None) (manifest_appids both.new))
    (filter (is_reported None) (gone_appids both))
    ∙ or_right _ _
    (any-filter_same p (is_reported None) true (λ x h. refl) (gone_appids both)
    ∙ any-filter_same p q true (λ x h. ap q ((bytes_eq-Decides x appid).0 h) ∙ ap not is)
    (manifest_appids both.old)
    ∙ any)

among : (appid : List ℕ) (ds : List AppDiff)
    → has_appid (map (λ d. string_bytes d.appid) ds) appid
    ≡ list_any (λ d. bytes_eq (string_bytes d.appid) appid) ds
among appid [] = refl
among appid (d ∷ ds) =
    ap (λ (b : Bool). bytes_eq (string_bytes d.appid) appid || b) (among appid ds)

found_in : (both : OpenedBoth) (from_day : ℕ) (used : List CellBound) (appid : List ℕ)
    (ds : List AppDiff) → All (IsAppDiff both from_day used) ds
    → has_appid (map (λ e. string_bytes e.appid) ds) appid ≡ true
    → IsReported both from_day used ds appid
found_in both from_day used appid ds each any =
    let f = Any-from_list_any (λ d. bytes_eq (string_bytes d.appid) appid) ds
    (sym (among appid ds) ∙ any) in
    let there : Contains ds f.1 = (f.0, f.2, f.3) in record {
      diff = f.1;
      there = there;
      appid_is = (bytes_eq-Decides (string_bytes f.1.appid) appid).0 f.4;
      is_diff = All-contains (IsAppDiff both from_day used) ds f.1 each there;
    }

pub reported : (both : OpenedBoth) (from_day : ℕ) (used : List CellBound) (diffs : List AppDiff)
    → AreAppDiffs both from_day used None diffs → (appid : List ℕ) → have_app both appid ≡ true
    → IsReported both from_day used diffs appid
reported both from_day used diffs are appid has =
    found_in both from_day used appid diffs are.each
    (ap (λ (appids : List (List ℕ)). has_appid appids appid) are.all
    ∙ either_has both appid (has_appid (manifest_appids both.new) appid) refl has)
