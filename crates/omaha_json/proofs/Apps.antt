-- The values of apps from a place on begin with that of the app at this place.
use Rattle.std.proofs.Common.{◌≡◌, ◌∷◌, ◌<◌, ◌+◌, ℕ, length, get_or, drop, add-one, drop-cons}
use Rattle.std.proofs.Common.{List, sym, ap, ap₂, ◌∙◌, Option}
use Rattle.attrs.specs.declared.facts.AppFacts.{AppFacts}
use Rattle.serde_json.specs.Data.{item}
use Rattle.omaha_json.specs.Found.{FoundApp}
use Rattle.omaha_json.specs.Reply.{app_value, app_values}

-- the part of a list from place i on begins with the element at i
left_from : {A : Type 0} (xs : List A) (i : ℕ) (x : A) → i < length xs → x ≡ get_or xs i x
    → drop i xs ≡ x ∷ drop (i + 1) xs
left_from {A} xs i x within is =
    drop-cons xs i x within
    ∙ ap₂ (λ (y : A) (ys : List A). y ∷ ys) (sym is) (ap (λ (k : ℕ). drop k xs) (sym (add-one i)))

pub values_from : (apps : List AppFacts) (found : List (Option FoundApp)) (i : ℕ) (app : AppFacts)
    (one : Option FoundApp)
    → i < length apps → i < length found → app ≡ get_or apps i app → one ≡ get_or found i one
    → app_values (drop i apps) (drop i found)
    ≡ item (app_value app one) (app_values (drop (i + 1) apps) (drop (i + 1) found))
values_from apps found i app one some each app_is one_is =
    ap₂ app_values (left_from apps i app some app_is) (left_from found i one each one_is)
