-- The place of an app is found by traversing the apps.
use Rattle.std.proofs.Common.{◌≡◌, ◌∙◌, sym, ap, refl, ℕ, ◌+◌, ◌-◌, ◌<◌, List, [], ◌∷◌, length}
use Rattle.std.proofs.Common.{true, false, Some, None, arith, drop, get_or}
use Rattle.std.proofs.lemmas.List.{drop_more, get_or-drop}
use Rattle.std.proofs.lemmas.Option.{slice_get_read}
use Rattle.std.specs.Str.{bytes_eq}
use Rattle.ruleset.specs.Rules.{AppRule, app_in}
use Rattle.simulate.specs.Picked.{IsPlaceOf}

pub none_left : {X : Type 0} (left : List X) → length left < 1 → left ≡ []
none_left [] few = refl
none_left (x ∷ rest) few = absurd (omega (arith, few))

module _ (apps : List AppRule) (appid : List ℕ) where
  -- the apps from a place on are left, and the one with the appid isn't before it
  pub record IsRemaining (place : ℕ) (left : List AppRule) : Type 0 where
    pub left_are : left ≡ drop place apps
    pub same : app_in left appid ≡ app_in apps appid
    pub within : place + length left ≡ length apps

  pub all_left : IsRemaining 0 apps
  all_left = record { left_are = refl; same = refl; within = omega arith }

  module _ (place : ℕ) (left others : List AppRule) (app : AppRule) (at : IsRemaining place left)
      (is : left ≡ app ∷ others) where
    count : length left ≡ length (app ∷ others)
    count = ap length is

    inside : place < length apps
    inside = omega (arith, at.within, count)

    pub goes_on : bytes_eq app.appid appid ≡ false → IsRemaining (place + 1) others
    goes_on other = record {
      left_are = ap (λ (l : List AppRule). drop 1 l)
          (sym is ∙ at.left_are ∙ drop_more apps place app inside);
      same =
          let step : app_in (app ∷ others) appid ≡ app_in others appid = rw other refl in
          sym step ∙ ap (λ (l : List AppRule). app_in l appid) (sym is) ∙ at.same;
      within = omega (arith, at.within, count);
    }

    pub is_here : bytes_eq app.appid appid ≡ true → IsPlaceOf apps appid place
    is_here own =
        let here : app_in (app ∷ others) appid ≡ Some app = rw own refl in
        let first : app ≡ get_or (drop place apps) 0 app =
        ap (λ (l : List AppRule). get_or l 0 app) (sym is ∙ at.left_are) in
        let same_place : place + 0 ≡ place = omega arith in
        record {
          app = app;
          found = sym at.same ∙ ap (λ (l : List AppRule). app_in l appid) is ∙ here;
          is_there = slice_get_read apps (length apps) place app refl inside
              (first ∙ get_or-drop place apps 0 app ∙ ap (λ i. get_or apps i app) same_place);
          within = inside;
        }

  pub nowhere : (place : ℕ) (left : List AppRule) → IsRemaining place left → left ≡ []
      → app_in apps appid ≡ None
  nowhere place left at is = sym at.same ∙ ap (λ (l : List AppRule). app_in l appid) is
