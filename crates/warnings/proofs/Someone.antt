-- Properties of some client: a disjunction of two properties, and whether a release is given, by
-- the marks.
use Rattle.std.proofs.Common.{◌≡◌, ℕ, zero, suc, ◌+◌, ◌<◌, ◌≤◌, List, [], ◌∷◌, ◌++◌}
use Rattle.std.proofs.Common.{Bool, true, false, ◌&&◌, ◌||◌, None, arith, add-one}
use Rattle.std.proofs.Common.{refl, sym, ap, ◌∙◌}
use Rattle.std.specs.Prelude.{nat_le}
use Rattle.std.specs.List.{list_any}
use Rattle.std.proofs.Math.Bool.{and-false, and-true}
use Rattle.std.proofs.lemmas.Bool.{lt-leb}
use Rattle.std.proofs.lemmas.List.Folds.{list_all-append}
use Rattle.attrs.specs.Attributes.{Attributes, plain}
use Rattle.rule_lang.specs.declared.rule.Statement.{Statement}
use Rattle.rule_lang.specs.declared.rule.Statement.TheVariants.{Count, When}
use Rattle.warnings.specs.declared.possible.Clients.{Clients}
use Rattle.warnings.specs.declared.possible.Clients.TheVariants.{AllAt}
use Rattle.warnings.specs.declared.spot.Spot.{Spot}
use Rattle.warnings.specs.Evaluation.{RuleOfApp, any_below, arrives, in_some_bucket, may_end}
use Rattle.warnings.specs.Evaluation.{may_give}
use Rattle.warnings.specs.Evaluation.{someone, tests_for}
use Rattle.warnings.specs.Course.{may_offer, offered, statement_possible}
use Rattle.warnings.specs.Marks.{AreMarked, each_by, is_ended, is_given}
use Rattle.warnings.proofs.Buckets.{any_found, some_at}

abbrev Operates : Type 0
Operates = Clients → Attributes → Bool

-- ---- some number

any_next : (p : ℕ → Bool) (n : ℕ) → any_below p (suc n) ≡ (any_below p n || p n)
unfolding any_below
any_next p n = refl

pub any_more : (p : ℕ → Bool) (n : ℕ) → any_below p (n + 1) ≡ (any_below p n || p n)
any_more p n = ap (any_below p) (add-one n) ∙ any_next p n

pub any_grows : (p : ℕ → Bool) (m n : ℕ) → m ≤ n → any_below p m ≡ true → any_below p n ≡ true
any_grows p m n more some =
    let w = some_at p m some in
    let below = w.below in any_found p w.number n (omega (arith, below, more)) w.holds

any_same : (p q : ℕ → Bool) → ((k : ℕ) → p k ≡ q k) → (n : ℕ) → any_below p n ≡ any_below q n
unfolding any_below
any_same p q same zero = refl
any_same p q same (suc n) =
    ap (λ b. b || p n) (any_same p q same n) ∙ ap (λ b. any_below q n || b) (same n)

swapped : (a b c d : Bool) → ((a || b) || (c || d)) ≡ ((a || c) || (b || d))
swapped true b c d = refl
swapped false true true d = refl
swapped false true false d = refl
swapped false false c d = refl

any_or : (p q : ℕ → Bool) (n : ℕ)
    → any_below (λ k. p k || q k) n ≡ (any_below p n || any_below q n)
unfolding any_below
any_or p q zero = refl
any_or p q (suc n) =
    ap (λ b. b || (p n || q n)) (any_or p q n) ∙ swapped (any_below p n) (any_below q n) (p n) (q n)

any_none : (n : ℕ) → any_below (λ k. false) n ≡ false
unfolding any_below
any_none zero = refl
any_none (suc n) = ap (λ b. b || false) (any_none n)

-- ---- some spot

spot_same : (p q : Spot → Bool) → ((s : Spot) → p s ≡ q s) → (spots : List Spot)
    → list_any p spots ≡ list_any q spots
spot_same p q same [] = refl
spot_same p q same (s ∷ ss) =
    ap (λ b. b || list_any p ss) (same s) ∙ ap (λ b. q s || b) (spot_same p q same ss)

spot_or : (p q : Spot → Bool) (spots : List Spot)
    → list_any (λ s. p s || q s) spots ≡ (list_any p spots || list_any q spots)
spot_or p q [] = refl
spot_or p q (s ∷ ss) =
    ap (λ b. (p s || q s) || b) (spot_or p q ss)
    ∙ swapped (p s) (q s) (list_any p ss) (list_any q ss)

spot_none : (spots : List Spot) → list_any (λ s. false) spots ≡ false
spot_none [] = refl
spot_none (s ∷ ss) = spot_none ss

-- ---- no statement, no release

pub none_given : (ends : List Bool) (left : List Statement) (release : ℕ) → left ≡ []
    → is_given ends left release ≡ false
none_given [] [] release none = refl
none_given (m ∷ ms) [] release none = refl
none_given ends (st ∷ rest) release none = absurd cc

-- ---- some client

module _ (r : RuleOfApp) (spots : List Spot) where
  same_someone : (f g : Operates)
      → ((clients : Clients) (a : Attributes) → f clients a ≡ g clients a)
      → someone r spots f ≡ someone r spots g
  same_someone f g same =
      spot_same (λ spot. in_some_bucket r (f (AllAt spot)) None)
      (λ spot. in_some_bucket r (g (AllAt spot)) None)
      (λ spot. any_same (λ k. f (AllAt spot) (plain r.appid None k))
      (λ k. g (AllAt spot) (plain r.appid None k))
      (λ k. same (AllAt spot) (plain r.appid None k)) 10000)
      spots

  someone_or : (f g : Operates)
      → someone r spots (λ clients a. f clients a || g clients a)
      ≡ (someone r spots f || someone r spots g)
  someone_or f g =
      spot_same (λ spot. in_some_bucket r (λ a. f (AllAt spot) a || g (AllAt spot) a) None)
      (λ spot. in_some_bucket r (f (AllAt spot)) None || in_some_bucket r (g (AllAt spot)) None)
      (λ spot. any_or (λ k. f (AllAt spot) (plain r.appid None k))
      (λ k. g (AllAt spot) (plain r.appid None k)) 10000)
      spots
      ∙ spot_or (λ spot. in_some_bucket r (f (AllAt spot)) None)
      (λ spot. in_some_bucket r (g (AllAt spot)) None) spots

  someone_none : someone r spots (λ clients a. false) ≡ false
  someone_none =
      spot_same (λ spot. in_some_bucket r (λ a. false) None) (λ spot. false)
      (λ spot. any_none 10000) spots
      ∙ spot_none spots

  someone_and : (f : Operates) (c : Bool)
      → someone r spots (λ clients a. f clients a && c) ≡ (someone r spots f && c)
  someone_and f true =
      same_someone (λ clients a. f clients a && true) f (λ clients a. and-true (f clients a))
      ∙ sym (and-true (someone r spots f))
  someone_and f false =
      same_someone (λ clients a. f clients a && false) (λ clients a. false)
      (λ clients a. and-false (f clients a))
      ∙ someone_none ∙ sym (and-false (someone r spots f))

  -- ---- a release that is given

  -- a client that reaches these statements may get the release from them
  abbrev gives_on : (before rest : List Statement) → ℕ → Operates
  gives_on before rest release clients a =
      arrives r before clients a && may_offer (tests_for r clients a) rest release

  by_one : (a h c f m : Bool) → (a && ((h && c) || (f && m))) ≡ (((a && h) && c) || ((a && f) && m))
  by_one true h c f m = refl
  by_one false h c f m = refl

  arrives_more : (before : List Statement) (st : Statement) (clients : Clients) (a : Attributes)
      → arrives r (before ++ st ∷ []) clients a
      ≡ (arrives r before clients a && (statement_possible (tests_for r clients a) st).fails)
  arrives_more before st clients a =
      list_all-append
      (λ (s : Statement). (statement_possible (tests_for r clients a) s).fails) before (st ∷ [])
      ∙ ap (λ b. arrives r before clients a && b)
      (and-true (statement_possible (tests_for r clients a) st).fails)

  gives_next : (before rest : List Statement) (st : Statement) (release : ℕ)
      → someone r spots (gives_on before (st ∷ rest) release)
      ≡ ((someone r spots (may_end r before st) && nat_le release (offered st))
      || someone r spots (gives_on (before ++ st ∷ []) rest release))
  gives_next before rest st release =
      let le = nat_le release (offered st) in
      same_someone (gives_on before (st ∷ rest) release)
      (λ clients a. (may_end r before st clients a && le)
      || gives_on (before ++ st ∷ []) rest release clients a)
      (λ clients a. by_one (arrives r before clients a)
      (statement_possible (tests_for r clients a) st).holds le
      (statement_possible (tests_for r clients a) st).fails
      (may_offer (tests_for r clients a) rest release)
      ∙ ap (λ b. (may_end r before st clients a && le)
      || (b && may_offer (tests_for r clients a) rest release))
      (sym (arrives_more before st clients a)))
      ∙ someone_or (λ clients a. may_end r before st clients a && le)
      (gives_on (before ++ st ∷ []) rest release)
      ∙ ap (λ b. b || someone r spots (gives_on (before ++ st ∷ []) rest release))
      (someone_and (may_end r before st) le)

  not_none : (release : ℕ) → 0 < release → nat_le release 0 ≡ false
  not_none release some = lt-leb release 0 some

  end_gives : (before : List Statement) (st : Statement) (release : ℕ) → 0 < release
      → (someone r spots (may_end r before st) && nat_le release (offered st))
      ≡ (is_ended r (someone r spots) before st && nat_le release (offered st))
  end_gives before (Count name index) release some =
      ap (λ b. someone r spots (may_end r before (Count name index)) && b) (not_none release some)
      ∙ and-false (someone r spots (may_end r before (Count name index)))
      ∙ sym (not_none release some)
  end_gives before (When steps given) release some = refl

  given_from : (before rest : List Statement) (release : ℕ) → 0 < release
      → is_given (each_by (is_ended r (someone r spots)) before rest) rest release
      ≡ someone r spots (gives_on before rest release)
  given_from before [] release some =
      sym (same_someone (gives_on before [] release) (λ clients a. false)
      (λ clients a. and-false (arrives r before clients a)) ∙ someone_none)
  given_from before (st ∷ rest) release some =
      ap (λ b. b || is_given (each_by (is_ended r (someone r spots)) (before ++ st ∷ []) rest) rest
      release) (sym (end_gives before st release some))
      ∙ ap (λ b. (someone r spots (may_end r before st) && nat_le release (offered st)) || b)
      (given_from (before ++ st ∷ []) rest release some)
      ∙ sym (gives_next before rest st release)

  pub given_is : (reached ends : List Bool) (release : ℕ) → 0 < release
      → AreMarked r (someone r spots) reached ends
      → is_given ends r.rule release ≡ someone r spots (may_give r release)
  given_is reached ends release some h =
      ap (λ (e : List Bool). is_given e r.rule release) h.ends_are
      ∙ given_from [] r.rule release some
