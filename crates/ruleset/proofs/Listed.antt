-- An appid has one app, if no appid is a duplicate.
use Rattle.std.proofs.Common.{◌≡◌, ◌<◌, ℕ, List, [], length, map, get_or}
use Rattle.std.proofs.Common.{inl, inr, sym, ap, ◌∙◌, Contains, arith}
use Rattle.std.proofs.lemmas.List.{get_or-map, get_or_default, length-map}
use Rattle.std.proofs.lemmas.Bool.{cases_order}
use Rattle.ruleset.specs.Rules.{Rules, AppRule, HasOneApp, HasDuplicate, appids_of}

pub map_at : {X Y : Type 0} (f : X → Y) (xs : List X) (k : ℕ) (x : X) (d : Y) → k < length xs
    → x ≡ get_or xs k x → get_or (map f xs) k d ≡ f x
map_at f xs k x d within is = get_or-map f xs k x d within ∙ ap f (sym is)

-- an appid at two places is a duplicate
duplicate : (apps : List AppRule) (i j : ℕ) (a b : AppRule) → a.appid ≡ b.appid → i < j
    → j < length apps
    → a ≡ get_or apps i a → b ≡ get_or apps j b → HasDuplicate (appids_of apps)
duplicate apps i j a b same apart within left right = record {
  first = i;
  second = j;
  apart = apart;
  within = rw (length-map apps (λ c. c.appid)) within;
  same = map_at (λ c. c.appid) apps i a [] (omega arith) left ∙ same ∙ sym
      (map_at (λ c. c.appid) apps j b [] within right);
}

-- if the appids are distinct, apps with the same appid are the same
one_app : (apps : List AppRule) → ¬ HasDuplicate (appids_of apps) → (a b : AppRule)
    → a.appid ≡ b.appid → Contains apps a → Contains apps b → a ≡ b
one_app apps once a b same left right = elim (cases_order left.0 right.0) [
  | inl here ↦
      let at : a ≡ get_or apps left.0 b =
      sym left.2 ∙ get_or_default apps left.0 a b left.1 in
      at ∙ ap (λ (k : ℕ). get_or apps k b) here ∙ right.2
  | inr apart ↦ elim apart [
    | inl before ↦ absurd
        (once (duplicate apps left.0 right.0 a b same before right.1 (sym left.2) (sym right.2)))
    | inr after ↦ absurd
        (once
        (duplicate apps right.0 left.0 b a (sym same) after left.1 (sym right.2) (sym left.2)))
  ]
]

pub one_known : (rules : Rules) → ¬ HasDuplicate (appids_of rules.apps) → HasOneApp rules
one_known rules once appid a b left right = one_app rules.apps once a b
    (left.appid_is ∙ sym right.appid_is) left.listed right.listed
