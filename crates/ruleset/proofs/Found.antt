-- A found app is listed with its appid; if none is found, none is listed. So a list has a duplicate
-- exactly if an appid is found again after its app.
use Rattle.std.proofs.Common.{◌≡◌, ℕ, zero, suc, ◌-◌, ◌<◌, ◌≤◌, List, [], ◌∷◌, length, get_or}
use Rattle.std.proofs.Common.{take, drop}
use Rattle.std.proofs.Common.{Option, Some, None, Bool, true, false, cond, Bor, Contains}
use Rattle.std.proofs.Common.{IfSome, IfNone, IsTrue, is_some, refl, sym, ap, subst, ◌∙◌, arith}
use Rattle.std.proofs.lemmas.List.{get_or_default, length-map, take_all}
use Rattle.std.proofs.lemmas.Option.{none-some, same_Some}
use Rattle.std.proofs.lemmas.Bool.Decides.{not_from_Decides}
use Rattle.std.proofs.lemmas.Slice.Eq.{bytes_eq-Decides}
use Rattle.std.specs.Prelude.{option_copied}
use Rattle.std.specs.Str.{bytes_eq}
use Rattle.ruleset.specs.Rules.{Rules, AppRule, ListsApp, OffersNone, app_in, app_of}
use Rattle.ruleset.specs.Rules.{HasDuplicate, appids_of}
use Rattle.ruleset.proofs.Listed.{map_at}

texts_equal : (a b : List ℕ) → bytes_eq a b ≡ true → a ≡ b
texts_equal a b = (bytes_eq-Decides a b).0

-- a found app is listed, with this appid
found_in : (apps : List AppRule) (appid : List ℕ) (x : AppRule)
    → app_in apps appid ≡ Some x → Contains apps x × (x.appid ≡ appid)
found_in [] appid x found = absurd (none-some x found)
found_in (app ∷ rest) appid x found =
    by (bytes_eq app.appid appid) refl (λ h. found_in rest appid x h)
  where
    by : (b : Bool) → bytes_eq app.appid appid ≡ b
        → (app_in rest appid ≡ Some x → Contains rest x × (x.appid ≡ appid))
        → Contains (app ∷ rest) x × (x.appid ≡ appid)
    by true e behind =
        let here = ap (λ (b : Bool). cond b (Some app) (app_in rest appid)) e in
        let same : app ≡ x = same_Some app x (sym here ∙ found) in (
          (0, omega arith, same),
          ap (λ (a : AppRule). a.appid) (sym same) ∙ texts_equal app.appid appid e,
        )
    by false e behind =
        let here = ap (λ (b : Bool). cond b (Some app) (app_in rest appid)) e in
        let there = behind (sym here ∙ found) in
        ((suc there.0.0, omega (arith, there.0.1), there.0.2), there.1)

-- an app with another appid in front changes nothing
behind_other : (app : AppRule) (rest : List AppRule) (appid : List ℕ) (x : AppRule)
    → bytes_eq app.appid appid ≡ false → x.appid ≡ appid
    → ((k : ℕ) → k < length rest → get_or rest k x ≡ x → ⊥)
    → (k : ℕ) → k < length (app ∷ rest) → get_or (app ∷ rest) k x ≡ x → ⊥
behind_other app rest appid x other same behind zero within is =
    not_from_Decides (bytes_eq app.appid appid) (bytes_eq-Decides app.appid appid) other
    (ap (λ (a : AppRule). a.appid) is ∙ same)
behind_other app rest appid x other same behind (suc k) within is =
    behind k (omega (arith, within)) is

-- if none is found, no app with this appid is listed
none_in : (apps : List AppRule) (appid : List ℕ) (x : AppRule)
    → app_in apps appid ≡ None → x.appid ≡ appid
    → (k : ℕ) → k < length apps → get_or apps k x ≡ x → ⊥
none_in [] appid x none same = λ k within is. absurd (omega (arith, within))
none_in (app ∷ rest) appid x none same =
    by (bytes_eq app.appid appid) refl (λ h. none_in rest appid x h same)
  where
    by : (b : Bool) → bytes_eq app.appid appid ≡ b
        → (app_in rest appid ≡ None → (k : ℕ) → k < length rest → get_or rest k x ≡ x → ⊥)
        → (k : ℕ) → k < length (app ∷ rest) → get_or (app ∷ rest) k x ≡ x → ⊥
    by true e behind =
        let here = ap (λ (b : Bool). cond b (Some app) (app_in rest appid)) e in
        λ k within is. none-some app (sym none ∙ here)
    by false e behind =
        let here = ap (λ (b : Bool). cond b (Some app) (app_in rest appid)) e in
        behind_other app rest appid x e same (behind (sym here ∙ none))

pub is_listed : (rules : Rules) (appid : List ℕ) (found : Option (Bor AppRule))
    → option_copied found ≡ app_of rules appid
    → IfSome found (λ app. ListsApp rules appid app.now)
is_listed rules appid None is = tt
is_listed rules appid (Some app) is =
    let listed = found_in rules.apps appid app.now (sym is) in
    record { listed = listed.0; appid_is = listed.1 }

pub offers_none : (rules : Rules) (appid : List ℕ) (found : Option (Bor AppRule))
    → option_copied found ≡ app_of rules appid → IfNone found (OffersNone rules appid)
offers_none rules appid None is = λ program offers.
    none_in rules.apps appid offers.app (sym is) offers.known.appid_is
    offers.known.listed.0 offers.known.listed.1 offers.known.listed.2
offers_none rules appid (Some app) is = tt

-- ---- duplicates

-- an appid that is found again after its app is a duplicate
pub found_again : (app : AppRule) (rest : List AppRule) (again : AppRule)
    → app_in rest app.appid ≡ Some again → HasDuplicate (appids_of (app ∷ rest))
found_again app rest again found =
    let listed = found_in rest app.appid again found in
    record {
      first = 0;
      second = suc listed.0.0;
      apart = omega arith;
      within = omega (arith, listed.0.1, length-map rest (λ a. a.appid));
      same = sym (map_at (λ a. a.appid) rest listed.0.0 again [] listed.0.1 (sym listed.0.2)
          ∙ listed.1);
    }

-- a duplicate among the others is one of the whole list
pub duplicate_later : (app : AppRule) (rest : List AppRule)
    → HasDuplicate (appids_of rest) → HasDuplicate (appids_of (app ∷ rest))
duplicate_later app rest d = record {
  first = suc d.first;
  second = suc d.second;
  apart = omega (arith, d.apart);
  within = omega (arith, d.within);
  same = d.same;
}

-- if the appid isn't found again and the others have no duplicate, the list has none
pub no_duplicate : (app : AppRule) (rest : List AppRule) → app_in rest app.appid ≡ None
    → ¬ HasDuplicate (appids_of rest) → ¬ HasDuplicate (appids_of (app ∷ rest))
no_duplicate app rest none apart d = by d.first d.second d.apart d.within d.same
  where
    by : (first second : ℕ) → first < second → second < length (appids_of (app ∷ rest))
        → get_or (appids_of (app ∷ rest)) first [] ≡ get_or (appids_of (app ∷ rest)) second [] → ⊥
    by first zero before within same = absurd (omega (arith, before))
    by zero (suc second) before within same =
        let inside : second < length rest =
        omega (arith, within, length-map rest (λ a. a.appid)) in
        let there = get_or rest second app in
        let is : get_or rest second there ≡ there =
        get_or_default rest second there app inside in
        none_in rest app.appid there none
        (sym (same ∙ map_at (λ a. a.appid) rest second there [] inside (sym is))) second inside is
    by (suc first) (suc second) before within same =
        apart (record {
          first = first;
          second = second;
          apart = omega (arith, before);
          within = omega (arith, within);
          same = same;
        })

-- the apps that are left have a duplicate exactly if all apps have one
pub record EndsIn (left apps : List AppRule) : Type 0 where
  pub here : HasDuplicate (appids_of left) → HasDuplicate (appids_of apps)
  pub none : ¬ HasDuplicate (appids_of left) → ¬ HasDuplicate (appids_of apps)

-- the apps that are left are the first and the others
first_and_others : (left : List AppRule) (app : AppRule) → 1 ≤ length left
    → app ≡ get_or left 0 app → left ≡ app ∷ take (length left - 1) (drop 1 left)
first_and_others [] app some is = absurd (omega (arith, some))
first_and_others (x ∷ others) app some is =
    ap (λ (y : AppRule). y ∷ others) (sym is)
    ∙ ap (λ (l : List AppRule). app ∷ l)
    (sym (take_all (length (x ∷ others) - 1) others (omega arith)))

module _ (left apps : List AppRule) (app : AppRule) (appid : List ℕ) (found : Option (Bor AppRule))
    (ends : EndsIn left apps) (some : 1 ≤ length left) (is : app ≡ get_or left 0 app)
    (named : appid ≡ app.appid)
    (search : option_copied found ≡ app_in (take (length left - 1) (drop 1 left)) appid) where
  abbrev pub others : List AppRule
  others = take (length left - 1) (drop 1 left)

  whole : left ≡ app ∷ others
  whole = first_and_others left app some is

  searched : option_copied found ≡ app_in others app.appid
  searched = search ∙ ap (λ (text : List ℕ). app_in others text) named

  pub is_again : is_some found ≡ true
      → (IsTrue true → HasDuplicate (appids_of apps))
      × (HasDuplicate (appids_of apps) → IsTrue true)
  is_again again = (
    λ _. ends.here (subst (λ (l : List AppRule). HasDuplicate (appids_of l))
        (sym whole) (by found searched again)),
    λ _. refl,
  )
    where
      by : (o : Option (Bor AppRule)) → option_copied o ≡ app_in others app.appid
          → is_some o ≡ true → HasDuplicate (appids_of (app ∷ others))
      by (Some again) there _ = found_again app others again.now (sym there)
      by None there e = absurd (cc)

  pub goes_on : is_some found ≡ false → EndsIn others apps
  goes_on none = record {
    here = λ d. ends.here (subst (λ (l : List AppRule). HasDuplicate (appids_of l)) (sym whole)
        (duplicate_later app others d));
    none = λ apart.
        ends.none (subst (λ (l : List AppRule). ¬ HasDuplicate (appids_of l)) (sym whole)
        (no_duplicate app others (by found searched none) apart));
  }
    where
      by : (o : Option (Bor AppRule)) → option_copied o ≡ app_in others app.appid
          → is_some o ≡ false → app_in others app.appid ≡ None
      by (Some again) there e = absurd (cc)
      by None there _ = sym there
