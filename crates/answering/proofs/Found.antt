-- What a ruleset has for the apps of a request: for an app, for one app more, and for all.
use Rattle.std.proofs.Common.{◌≡◌, ◌∙◌, ℕ, suc, ◌+◌, ◌<◌, ◌≤◌, List, [], ◌∷◌, ◌++◌, length}
use Rattle.std.proofs.Common.{take, get_or, Option, Some, option_map, refl, ap, ap₂, sym, arith}
use Rattle.std.proofs.lemmas.List.{length-take-le, take_all, take_more}
use Rattle.std.specs.Prelude.{unwrap_or}
use Rattle.attrs.specs.Bucket.{app_bucket, hashed_bucket, named_bucket}
use Rattle.attrs.specs.declared.facts.AppFacts.{AppFacts}
use Rattle.attrs.specs.declared.facts.RequestFacts.{RequestFacts}
use Rattle.ruleset.specs.Rules.{AppRule, Rules, app_of}
use Rattle.omaha_json.specs.Found.{FoundApp, found_with}
use Rattle.answering.specs.Found.{found_app, found_apps, listed_app}

-- an app of the ruleset, whose bucket is that of these facts, or else the hashed one
pub listed_is : (facts : RequestFacts) (app lent : AppFacts) (choice : Option ℕ)
    (known : AppRule) (hashed bucket : ℕ) (found : FoundApp)
    → hashed ≡ hashed_bucket facts → lent ≡ app
    → bucket ≡ unwrap_or (named_bucket lent) hashed
    → found ≡ found_with known.releases choice bucket → found ≡ listed_app facts app choice known
listed_is facts app lent choice known hashed bucket found hashes same named is =
    let in_bucket : bucket ≡ app_bucket app facts =
    named ∙ ap (λ (f : AppFacts). unwrap_or (named_bucket f) hashed) same
    ∙ ap (unwrap_or (named_bucket app)) hashes in
    is ∙ ap (found_with known.releases choice) in_bucket

module _ (rules : Rules) (facts : RequestFacts) where
  -- an app that is in the ruleset
  pub found_is : (app : AppFacts) (appid : List ℕ) (choice : Option ℕ) (known : AppRule)
      (found : FoundApp) → appid ≡ app.appid → Some known ≡ app_of rules appid
      → found ≡ listed_app facts app choice known → Some found ≡ found_app rules facts app choice
  found_is app appid choice known found named knows is =
      ap Some is
      ∙ ap (option_map (listed_app facts app choice)) (knows ∙ ap (app_of rules) named)

  -- one app more
  pub found_snoc : (apps : List AppFacts) (choices : List (Option ℕ)) (app : AppFacts)
      (choice : Option ℕ) → length choices ≡ length apps
      → found_apps rules facts (apps ++ app ∷ []) (choices ++ choice ∷ [])
      ≡ found_apps rules facts apps choices ++ found_app rules facts app choice ∷ []
  found_snoc [] [] app choice e = refl
  found_snoc [] (c ∷ cs) app choice e = absurd (omega (arith, e))
  found_snoc (a ∷ others) [] app choice e = absurd (omega (arith, e))
  found_snoc (a ∷ others) (c ∷ cs) app choice e =
      ap (λ (z : List (Option FoundApp)). found_app rules facts a c ∷ z)
      (found_snoc others cs app choice (omega (arith, e)))

  pub found_length : (apps : List AppFacts) (choices : List (Option ℕ))
      → length choices ≡ length apps → length (found_apps rules facts apps choices) ≡ length apps
  found_length [] choices e = refl
  found_length (a ∷ others) [] e = absurd (omega (arith, e))
  found_length (a ∷ others) (c ∷ cs) e =
      ap (λ (n : ℕ). suc n) (found_length others cs (omega (arith, e)))

  -- what is found for the first few apps
  abbrev pub found_first : ℕ → List AppFacts → List (Option ℕ) → List (Option FoundApp)
  found_first few apps choices = found_apps rules facts (take few apps) (take few choices)

  module _ (apps : List AppFacts) (choices : List (Option ℕ))
      (each : length choices ≡ length apps) where
    -- one app more, as the loop counts
    pub found_next : (i : ℕ) (app : AppFacts) (choice : Option ℕ)
        (old new : List (Option FoundApp)) (one : Option FoundApp)
        → i < length apps → app ≡ get_or apps i app → choice ≡ get_or choices i choice
        → new ≡ old ++ one ∷ [] → one ≡ found_app rules facts app choice
        → old ≡ found_first i apps choices → new ≡ found_first (i + 1) apps choices
    found_next i app choice old new one some app_is choice_is grown is so_far =
        let longer : take (i + 1) apps ≡ take i apps ++ app ∷ [] =
        take_more apps i app some ∙ ap (λ (x : AppFacts). take i apps ++ x ∷ []) (sym app_is) in
        let chosen : i < length choices = omega (arith, some, each) in
        let more : take (i + 1) choices ≡ take i choices ++ choice ∷ [] =
        take_more choices i choice chosen
        ∙ ap (λ (x : Option ℕ). take i choices ++ x ∷ []) (sym choice_is) in
        let a = length-take-le i apps (omega (arith, some)) in
        let b = length-take-le i choices (omega (arith, chosen)) in
        grown ∙ ap₂ (λ (xs : List (Option FoundApp)) (x : Option FoundApp). xs ++ x ∷ []) so_far is
        ∙ sym (ap₂ (found_apps rules facts) longer more
        ∙ found_snoc (take i apps) (take i choices) app choice (b ∙ sym a))

    -- all apps
    pub found_last : (i : ℕ) (found : List (Option FoundApp)) → length apps ≤ i
        → found ≡ found_first i apps choices → found ≡ found_apps rules facts apps choices
    found_last i found all is =
        is ∙ ap₂ (found_apps rules facts) (take_all i apps all)
        (take_all i choices (omega (arith, all, each)))
