-- The code of a comparison runs as the comparison says.
use Rattle.std.proofs.Common.{◌≡◌, ℕ, ◌<◌, List, [], ◌∷◌, length}
use Rattle.std.proofs.Common.{Bool, refl, sym, ap, arith, inl, inr}
use Rattle.std.proofs.lemmas.Bool.{cases_lt}
use Rattle.std.specs.Prelude.{slice_index, if◌then◌else◌}
use Rattle.std.specs.Int.{w32}
use Rattle.std.specs.Ordering.{nat_cmp, ordering_then}
use Rattle.std.specs.declared.cmp.Ordering.{Ordering}
use Rattle.std.specs.declared.cmp.Ordering.TheVariants.{Less, Equal, Greater}
use Rattle.bpf_insn.specs.declared.operand.Condition.{Condition}
use Rattle.bpf_insn.specs.declared.operand.Condition.TheVariants as jump
use Rattle.bpf_insn.specs.Conditions.{compares}
use Rattle.rule_lang.specs.declared.test.Comparison.{Comparison}
use Rattle.rule_lang.specs.declared.test.Comparison.TheVariants as comparison
use Rattle.rule_lang.specs.Meaning.{Behaviour, allows, place_cmp, version_cmp}
use Rattle.rule_compile.specs.Code.{condition_of, four_of}
use Rattle.rule_compile.proofs.VersionWords.{if_equal, if_ordered}

-- ---- comparisons are conditions

-- how two numbers compare
data Order (v n : ℕ) : Type 0 where
  less : v < n → Order v n
  same : v ≡ n → Order v n
  more : n < v → Order v n

order : (v n : ℕ) → Order v n
order v n = elim (cases_lt v n) [
  | inl lt ↦ less lt
  | inr le ↦ elim (cases_lt n v) [
    | inl gt ↦ more gt
    | inr ge ↦ same (omega (arith, le, ge))
  ]
]

pub allows_is : (r : Comparison) (v n : ℕ)
    → allows r (nat_cmp v n) ≡ compares w32 (condition_of r) v n
allows_is r v n = by_order r (order v n)
  where
    by_order : (r : Comparison) → Order v n
        → allows r (nat_cmp v n) ≡ compares w32 (condition_of r) v n
    by_order comparison.Lt (less h) = grind (arith, h)
    by_order comparison.Lt (same h) = grind (arith, h)
    by_order comparison.Lt (more h) = grind (arith, h)
    by_order comparison.Le (less h) = grind (arith, h)
    by_order comparison.Le (same h) = grind (arith, h)
    by_order comparison.Le (more h) = grind (arith, h)
    by_order comparison.Eq (less h) = grind (arith, h)
    by_order comparison.Eq (same h) = grind (arith, h)
    by_order comparison.Eq (more h) = grind (arith, h)
    by_order comparison.Ne (less h) = grind (arith, h)
    by_order comparison.Ne (same h) = grind (arith, h)
    by_order comparison.Ne (more h) = grind (arith, h)
    by_order comparison.Ge (less h) = grind (arith, h)
    by_order comparison.Ge (same h) = grind (arith, h)
    by_order comparison.Ge (more h) = grind (arith, h)
    by_order comparison.Gt (less h) = grind (arith, h)
    by_order comparison.Gt (same h) = grind (arith, h)
    by_order comparison.Gt (more h) = grind (arith, h)

-- ---- versions

cmp_less : (v n : ℕ) → v < n → nat_cmp v n ≡ Less
cmp_less v n h = grind (arith, h)

cmp_equal : (v n : ℕ) → v ≡ n → nat_cmp v n ≡ Equal
cmp_equal v n h = grind (arith, h)

cmp_greater : (v n : ℕ) → n < v → nat_cmp v n ≡ Greater
cmp_greater v n h = grind (arith, h)

-- the comparisons of order, and the condition that decides them before the last word
abbrev pub IsOrder : Comparison → Type 0
IsOrder comparison.Eq = ⊥
IsOrder comparison.Ne = ⊥
IsOrder r = Unit {0}

abbrev pub strict_of : Comparison → Condition
strict_of comparison.Lt = jump.Lt
strict_of comparison.Le = jump.Lt
strict_of r = jump.Gt

-- the word before the last ones
word_orders : (r : Comparison) (v n : ℕ) (o : Ordering) (x y z : Behaviour) → IsOrder r
    → z ≡ (if allows r o then x else y)
    → (if compares w32 (strict_of r) v n then x else if compares w32 jump.Ne v n then y
    else z) ≡ (if allows r (ordering_then (nat_cmp v n) o) then x else y)
word_orders r v n o x y z is h = by_order r is (order v n) h
  where
    by_order : (r : Comparison) → IsOrder r → Order v n → z ≡ (if allows r o then x else y)
        → (if compares w32 (strict_of r) v n then x else if compares w32 jump.Ne v n then y
        else z) ≡ (if allows r (ordering_then (nat_cmp v n) o) then x else y)
    by_order comparison.Eq is d h = absurd is
    by_order comparison.Ne is d h = absurd is
    by_order comparison.Lt is (less d) h = rw (cmp_less v n d) (grind (arith, d))
    by_order comparison.Lt is (same d) h = rw (cmp_equal v n d) (grind (arith, d, h))
    by_order comparison.Lt is (more d) h = rw (cmp_greater v n d) (grind (arith, d))
    by_order comparison.Le is (less d) h = rw (cmp_less v n d) (grind (arith, d))
    by_order comparison.Le is (same d) h = rw (cmp_equal v n d) (grind (arith, d, h))
    by_order comparison.Le is (more d) h = rw (cmp_greater v n d) (grind (arith, d))
    by_order comparison.Ge is (less d) h = rw (cmp_less v n d) (grind (arith, d))
    by_order comparison.Ge is (same d) h = rw (cmp_equal v n d) (grind (arith, d, h))
    by_order comparison.Ge is (more d) h = rw (cmp_greater v n d) (grind (arith, d))
    by_order comparison.Gt is (less d) h = rw (cmp_less v n d) (grind (arith, d))
    by_order comparison.Gt is (same d) h = rw (cmp_equal v n d) (grind (arith, d, h))
    by_order comparison.Gt is (more d) h = rw (cmp_greater v n d) (grind (arith, d))

last_word : (r : Comparison) (v n : ℕ) (x y : Behaviour)
    → (if compares w32 (condition_of r) v n then x else y) ≡ (if allows r
    (nat_cmp v n) then x else y)
last_word r v n x y = ap (λ (b : Bool). if b then x else y) (sym (allows_is r v n))

-- an order, from the first word on
pub ordered_is : (r : Comparison) (v w : List ℕ) (x y : Behaviour) → IsOrder r
    → if_ordered (strict_of r) (condition_of r) (slice_index v) 0
    (four_of w) x y ≡ (if allows r (version_cmp v w) then x else y)
ordered_is r v w x y is =
    word_orders r (slice_index v 0) (slice_index w 0)
    (ordering_then (place_cmp v w 1) (ordering_then (place_cmp v w 2) (place_cmp v w 3))) x y _
    is
    (word_orders r (slice_index v 1) (slice_index w 1)
    (ordering_then (place_cmp v w 2) (place_cmp v w 3)) x y _ is
    (word_orders r (slice_index v 2) (slice_index w 2) (place_cmp v w 3) x y _ is
    (last_word r (slice_index v 3) (slice_index w 3) x y)))

word_equals : (v n : ℕ) (o : Ordering) (x y z : Behaviour)
    → z ≡ (if allows comparison.Eq o then x else y)
    → (if compares w32 jump.Ne v n then y else z) ≡ (if allows comparison.Eq
    (ordering_then (nat_cmp v n) o) then x else y)
word_equals v n o x y z h = by_order (order v n)
  where
    by_order : Order v n → (if compares w32 jump.Ne v n then y else z) ≡ (if allows comparison.Eq
        (ordering_then (nat_cmp v n) o) then x else y)
    by_order (less d) = rw (cmp_less v n d) (grind (arith, d))
    by_order (same d) = rw (cmp_equal v n d) (grind (arith, d, h))
    by_order (more d) = rw (cmp_greater v n d) (grind (arith, d))

pub equal_is : (v w : List ℕ) (x y : Behaviour)
    → if_equal (slice_index v) 0 (four_of w) x
    y ≡ (if allows comparison.Eq (version_cmp v w) then x else y)
equal_is v w x y =
    word_equals (slice_index v 0) (slice_index w 0)
    (ordering_then (place_cmp v w 1) (ordering_then (place_cmp v w 2) (place_cmp v w 3))) x y _
    (word_equals (slice_index v 1) (slice_index w 1)
    (ordering_then (place_cmp v w 2) (place_cmp v w 3)) x y _
    (word_equals (slice_index v 2) (slice_index w 2) (place_cmp v w 3) x y _
    (last_word comparison.Eq (slice_index v 3) (slice_index w 3) x y)))

pub unequal_is : (o : Ordering) (x y : Behaviour)
    → (if allows comparison.Eq o then y else x) ≡ (if allows comparison.Ne o then x else y)
unequal_is Less x y = refl
unequal_is Equal x y = refl
unequal_is Greater x y = refl

-- a version has exactly these four numbers
pub four_is : (w : List ℕ) → length w ≡ 4 → four_of w ≡ w
four_is [] h = absurd (omega (arith, h))
four_is (a ∷ []) h = absurd (omega (arith, h))
four_is (a ∷ b ∷ []) h = absurd (omega (arith, h))
four_is (a ∷ b ∷ c ∷ []) h = absurd (omega (arith, h))
four_is (a ∷ b ∷ c ∷ d ∷ []) h = refl
four_is (a ∷ b ∷ c ∷ d ∷ e ∷ w) h = absurd (omega (arith, h))
