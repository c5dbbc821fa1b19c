-- The result of a test, for an app that the evaluation represents, is a possible result.
use Rattle.std.proofs.Common.{◌≡◌, ℕ, ◌<◌, ◌≤◌, ◌%◌, List, [], ◌∷◌, ◌++◌, ◌⊎◌, inl, inr, Option}
use Rattle.std.proofs.Common.{Some, None, Bool, true, false, not, ◌||◌, cond}
use Rattle.std.proofs.Common.{refl, sym, ap, ◌∙◌, arith}
use Rattle.std.specs.Prelude.{min}
use Rattle.std.specs.Cmp.{nat_cmp_is}
use Rattle.std.specs.Int.{w64, to_le_bytes}
use Rattle.std.specs.Ordering.{nat_cmp}
use Rattle.std.specs.declared.cmp.Ordering.TheVariants.{Less, Greater}
use Rattle.std.proofs.lemmas.Bool.{cases_order, or_left, or_right}
use Rattle.attrs.specs.Attributes.{Attributes}
use Rattle.attrs.specs.Bucket.{four_digits}
use Rattle.attrs.specs.Hash.{fnv1a}
use Rattle.cells.specs.Arrays.{AppShape}
use Rattle.cells.specs.declared.event.CellEvent.{CellEvent}
use Rattle.rule_lang.specs.declared.test.Comparison.{Comparison}
use Rattle.rule_lang.specs.declared.test.Test.{Test}
use Rattle.rule_lang.specs.declared.test.Test.TheVariants as test
use Rattle.rule_lang.specs.Meaning.{Behaviour, HasTrace, allows, add_one_then, bucket_by}
use Rattle.rule_lang.specs.Meaning.{remainder, test_holds, test_then, version_cmp}
use Rattle.rule_lang.specs.Shapes.{array_named, cell_of}
use Rattle.warnings.specs.declared.possible.Possible.{Possible}
use Rattle.warnings.specs.declared.spot.Spot.{Spot}
use Rattle.warnings.specs.Possible.{day_possible, decided}
use Rattle.warnings.specs.Possible.{open_possible, undecided}
use Rattle.warnings.specs.Spots.{spot_at, spot_cmp}

-- ---- the behaviour if a condition holds, or if it fails

-- some events lead to this choice
abbrev pub Leads : Behaviour → ℕ → Type 0
Leads b choice = (events : List CellEvent) × HasTrace b events choice

-- the condition chooses between two behaviours only as `p` allows: if it can't hold, the first one
-- doesn't matter; if it can't fail, the second; and each run follows one of both
pub record Comes (p : Possible) (go : Behaviour → Behaviour → Behaviour) : Type 0 where
  pub no_met : p.holds ≡ false → (m n u : Behaviour) → go m u ≡ go n u
  pub no_unmet : p.fails ≡ false → (m u v : Behaviour) → go m u ≡ go m v
  pub leads : (m u : Behaviour) (choice : ℕ) → Leads (go m u) choice
      → ((p.holds ≡ true) × Leads m choice) ⊎ ((p.fails ≡ true) × Leads u choice)

-- ---- tests

by_truth : (b : Bool) (p : Possible) → (b ≡ true → p.holds ≡ true) → (b ≡ false → p.fails ≡ true)
    → Comes p (λ m u. cond b m u)
by_truth true p yields fails = record {
  no_met = λ not_held m n u. absurd (let both = sym not_held ∙ yields refl in cc);
  no_unmet = λ not_failed m u v. refl;
  leads = λ m u choice h. inl (yields refl, h);
}
by_truth false p yields fails = record {
  no_met = λ not_held m n u. refl;
  no_unmet = λ not_failed m u v. absurd (let both = sym not_failed ∙ fails refl in cc);
  leads = λ m u choice h. inr (fails refl, h);
}

by_decided : (b c : Bool) → b ≡ c → Comes (decided c) (λ m u. cond b m u)
by_decided b c is =
    by_truth b (decided c) (λ h. sym is ∙ h) (λ h. ap not (sym is ∙ h))

by_open : (b : Bool) → Comes undecided (λ m u. cond b m u)
by_open b = by_truth b undecided (λ h. refl) (λ h. refl)

by_reply : (b : Bool) (m u : Behaviour) (choice : ℕ) → Leads (cond b m u) choice
    → ((true ≡ true) × Leads m choice) ⊎ ((true ≡ true) × Leads u choice)
by_reply true m u choice h = inl (refl, h)
by_reply false m u choice h = inr (refl, h)

after_take : (cell : ℕ) (holds : ℕ → Bool) (m u : Behaviour) (choice : ℕ)
    → Leads (add_one_then (Some cell) (λ reply. cond (holds reply) m u)) choice
    → ((true ≡ true) × Leads m choice) ⊎ ((true ≡ true) × Leads u choice)
after_take cell holds m u choice ([], h) = absurd h
after_take cell holds m u choice (e ∷ events, h) =
    by_reply (holds e.reply) m u choice (events, h.3)

by_take : (cell : ℕ) (holds : ℕ → Bool)
    → Comes undecided (λ m u. add_one_then (Some cell) (λ reply. cond (holds reply) m u))
by_take cell holds = record {
  no_met = λ h m n u. absurd cc;
  no_unmet = λ h m u v. absurd cc;
  leads = after_take cell holds;
}

-- one of three results is that of the day
abbrev among_three : Bool → Bool → Bool → Possible
among_three p q r = record { holds = p || q || r; fails = not p || not q || not r }

by_first : (p q r b : Bool) → b ≡ p → Comes (among_three p q r) (λ m u. cond b m u)
by_first p q r b is =
    by_truth b (among_three p q r)
    (λ h. or_left (p || q) r (or_left p q (sym is ∙ h)))
    (λ h. or_left (not p || not q) (not r) (or_left (not p) (not q) (ap not (sym is ∙ h))))

by_nearest : (p q r b : Bool) → b ≡ q → Comes (among_three p q r) (λ m u. cond b m u)
by_nearest p q r b is =
    by_truth b (among_three p q r)
    (λ h. or_left (p || q) r (or_right p q (sym is ∙ h)))
    (λ h. or_left (not p || not q) (not r) (or_right (not p) (not q) (ap not (sym is ∙ h))))

by_last : (p q r b : Bool) → b ≡ r → Comes (among_three p q r) (λ m u. cond b m u)
by_last p q r b is =
    by_truth b (among_three p q r) (λ h. or_right (p || q) r (sym is ∙ h))
    (λ h. or_right (not p || not q) (not r) (ap not (sym is ∙ h)))

like_first : (day n : ℕ) → day < n → nat_cmp day n ≡ nat_cmp 0 n
like_first day n h =
    let first : 0 < n = omega arith in
    sym (nat_cmp_is day n Less h) ∙ nat_cmp_is 0 n Less first

like_last : (last day n : ℕ) → day ≤ last → n < day → nat_cmp day n ≡ nat_cmp last n
like_last last day n within h =
    let over : n < last = omega arith in
    sym (nat_cmp_is day n Greater h) ∙ nat_cmp_is last n Greater over

like_itself : (last day n : ℕ) → day ≤ last → day ≡ n → nat_cmp day n ≡ nat_cmp (min n last) n
like_itself last day n within is =
    let nearest : day ≡ min n last = omega arith in
    ap (λ k. nat_cmp k n) nearest

by_day : (last : ℕ) (r : Comparison) (day n : ℕ) → day ≤ last
    → Comes (day_possible last r n) (λ m u. cond (allows r (nat_cmp day n)) m u)
by_day last r day n within =
    let p = allows r (nat_cmp 0 n) in
    let q = allows r (nat_cmp (min n last) n) in
    let l = allows r (nat_cmp last n) in
    let b = allows r (nat_cmp day n) in
    elim (cases_order day n) [
      | inl same ↦ by_nearest p q l b (ap (allows r) (like_itself last day n within same))
      | inr (inl below) ↦ by_first p q l b (ap (allows r) (like_first day n below))
      | inr (inr above) ↦ by_last p q l b (ap (allows r) (like_last last day n within above))
    ]

-- ---- an app that the evaluation represents

-- the bucket is that of the evaluation, and days are in their ranges
pub record IsOneOf (spot : Spot) (evaluated a : Attributes) : Type 0 where
  pub bucket : a.context.bucket ≡ evaluated.context.bucket
  pub today : a.context.today ≤ 2919382
  pub install_day : a.context.install_day ≤ 4294967295

-- the version has the same result in a test as the spot
abbrev pub AnswersAlike : Spot → (version : List ℕ) → Test → Type 0
AnswersAlike spot version (test.Version r w) = spot_cmp spot (spot_at w) ≡ version_cmp version w
AnswersAlike spot version t = Unit {0}

module _ (spot : Spot) (evaluated a : Attributes) (is : IsOneOf spot evaluated a)
    (s : AppShape) where
  same_bucket : (salt : Option ℕ) → bucket_by a salt ≡ bucket_by evaluated salt
  same_bucket None = is.bucket
  same_bucket (Some salt) =
      ap (λ b. fnv1a (four_digits b ++ to_le_bytes w64 salt) % 10000) is.bucket

  pub test_comes : (t : Test) → AnswersAlike spot a.context.version t
      → Comes (open_possible spot evaluated s t) (test_then a s t)
  test_comes (test.Version r w) alike =
      by_decided (allows r (version_cmp a.context.version w)) (allows r (spot_cmp spot (spot_at w)))
      (ap (allows r) (sym alike))
  test_comes (test.Bucket salt modulus r n) alike =
      by_decided (allows r (nat_cmp (remainder modulus (bucket_by a salt)) n))
      (allows r (nat_cmp (remainder modulus (bucket_by evaluated salt)) n))
      (ap (λ b. allows r (nat_cmp (remainder modulus b) n)) (same_bucket salt))
  test_comes (test.Today r n) alike = by_day 2919382 r a.context.today n is.today
  test_comes (test.Installed r n) alike =
      by_day 4294967295 r a.context.install_day n is.install_day
  test_comes (test.Flag f) alike = by_open (test_holds a s 0 (test.Flag f))
  test_comes (test.Attr n text) alike = by_open (test_holds a s 0 (test.Attr n text))
  test_comes (test.Take name index) alike =
      by_take (cell_of (array_named name s.arrays) index)
      (λ reply. test_holds a s reply (test.Take name index))
