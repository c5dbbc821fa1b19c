-- A text that is written part by part is written as a whole.
use Rattle.std.proofs.Common.{◌≡◌, ◌∙◌, refl, sym, ap, None, ℕ, suc, ◌+◌, ◌-◌, ◌<◌, ◌≤◌}
use Rattle.std.proofs.Common.{List, [], ◌∷◌, ◌++◌, append_assoc, arith, length}
use Rattle.std.proofs.lemmas.List.{append-nil}
use Rattle.std.specs.List.{flat_map, range_with_len}
use Rattle.serde_json.specs.Data.{Data}
use Rattle.simulate.specs.Objects.{move_object_if_any, share_if_any}
use Rattle.simulate.specs.Shown.{no_offer, offer_in, offered}
use Rattle.simulate.specs.Counts.{choices_or_none}
use Rattle.ruleset.specs.Rules.{AppRule}

-- one part further, and at the end
pub one_further : {A : Type 0} (o part rest new whole : List A) → new ≡ o ++ part
    → o ++ (part ++ rest) ≡ whole → new ++ rest ≡ whole
one_further {A} o part rest new whole grown is =
    ap (λ (t : List A). t ++ rest) grown ∙ append_assoc o part rest ∙ is

pub at_end : {A : Type 0} (o whole : List A) → o ++ [] ≡ whole → o ≡ whole
at_end o whole is = sym (append-nil o) ∙ is

-- ---- loops over numbers

next_number : (i n : ℕ) → i ≤ n
    → range_with_len i (n + 1 - i) ≡ i ∷ range_with_len (i + 1) (n + 1 - (i + 1))
next_number i n within =
    let more : n + 1 - i ≡ suc (n + 1 - (i + 1)) = omega arith in
    ap (range_with_len i) more

pub number_further : {A : Type 0} (f : ℕ → List A) (i n : ℕ) (o new whole : List A) → i ≤ n
    → new ≡ o ++ f i → o ++ flat_map f (range_with_len i (n + 1 - i)) ≡ whole
    → new ++ flat_map f (range_with_len (i + 1) (n + 1 - (i + 1))) ≡ whole
number_further f i n o new whole within grown is =
    one_further o (f i) (flat_map f (range_with_len (i + 1) (n + 1 - (i + 1)))) new whole grown
    (ap (λ (l : List ℕ). o ++ flat_map f l) (sym (next_number i n within)) ∙ is)

-- the object of a count is that of the equal number
pub share_counted : (versions : List (List ℕ)) (choice count n : ℕ) (old new : List Data)
    → new ≡ old ++ share_if_any versions choice count → count ≡ n
    → new ≡ old ++ share_if_any versions choice n
share_counted versions choice count n old new grown is_count =
    grown ∙ ap (λ (m : ℕ). old ++ share_if_any versions choice m) is_count

pub move_object_counted : (now next : List (List ℕ)) (from to count n : ℕ) (old new : List Data)
    → new ≡ old ++ move_object_if_any now next from to count → count ≡ n
    → new ≡ old ++ move_object_if_any now next from to n
move_object_counted now next from to count n old new grown is_count =
    grown ∙ ap (λ (m : ℕ). old ++ move_object_if_any now next from to m) is_count

-- ---- an app that doesn't exist

pub none_offered : (choices : List ℕ) → choices ≡ choices_or_none None
    → offered None choices ≡ no_offer
unfolding no_offer
none_offered choices is = ap (offered None) is

pub no_app_left : (apps : List AppRule) (chosen : List (List ℕ)) (appid : List ℕ)
    → length apps < 1 → offer_in apps chosen appid ≡ no_offer
no_app_left [] chosen appid none = refl
no_app_left (app ∷ apps) chosen appid none = absurd (omega (arith, none))

pub no_choices_left : (apps : List AppRule) (chosen : List (List ℕ)) (appid : List ℕ)
    → length chosen < 1 → offer_in apps chosen appid ≡ no_offer
no_choices_left [] chosen appid none = refl
no_choices_left (app ∷ apps) [] appid none = refl
no_choices_left (app ∷ apps) (choices ∷ chosen) appid none = absurd (omega (arith, none))
