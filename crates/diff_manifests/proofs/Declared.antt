-- Arrays that are declared alike: those with one name, and what fits them.
use Rattle.std.proofs.Common.{◌≡◌, ◌∙◌, refl, ap, ap₂, sym}
use Rattle.std.proofs.Common.{ℕ, List, [], ◌∷◌, map}
use Rattle.std.specs.Prelude.{Bool, true, false, cond, ◌&&◌, nat_le, Option, Some, None}
use Rattle.std.specs.Prelude.{if◌then◌else◌, option_map}
use Rattle.std.specs.List.{list_all}
use Rattle.std.specs.Str.{bytes_eq}
use Rattle.std.proofs.lemmas.Option.{same_Some}
use Rattle.cells.specs.Arrays.{AppShape}
use Rattle.cells.specs.declared.array.CellArray.{CellArray}
use Rattle.rule_lang.specs.declared.condition.Step.{Step}
use Rattle.rule_lang.specs.declared.condition.Step.TheVariants as step
use Rattle.rule_lang.specs.declared.rule.Statement.{Statement}
use Rattle.rule_lang.specs.declared.rule.Statement.TheVariants.{Count, When}
use Rattle.rule_lang.specs.declared.test.Test.{Test}
use Rattle.rule_lang.specs.declared.test.Test.TheVariants as test
use Rattle.rule_lang.specs.Fits.{can_count, can_take, fits, statement_fits, step_fits, test_fits}
use Rattle.rule_lang.specs.Shapes.{array_named}
use Rattle.diff_space.specs.Machines.{declared}

-- the other list has an array with the name that is declared alike
pub record IsAlike (name : List ℕ) (a : CellArray) (others : List CellArray) : Type 0 where
  pub other : CellArray
  pub is_named : array_named name others ≡ Some other
  pub alike : declared other ≡ declared a

alike_step : (name : List ℕ) (x y a : CellArray) (xs ys : List CellArray) (same : Bool)
    → declared x ≡ declared y → bytes_eq x.name name ≡ same
    → (if same then Some x else array_named name xs) ≡ Some a
    → (array_named name xs ≡ Some a → IsAlike name a ys) → IsAlike name a (y ∷ ys)
alike_step name x y a xs ys true declare same is later = record {
  other = y;
  is_named = ap (λ (b : Bool). cond b (Some y) (array_named name ys))
      (ap (λ (d : CellArray). bytes_eq d.name name) (sym declare) ∙ same);
  alike = sym declare ∙ ap declared (same_Some x a is);
}
alike_step name x y a xs ys false declare same is later =
    let rest = later is in
    record {
      other = rest.other;
      is_named = ap (λ (b : Bool). cond b (Some y) (array_named name ys))
          (ap (λ (d : CellArray). bytes_eq d.name name) (sym declare) ∙ same) ∙ rest.is_named;
      alike = rest.alike;
    }

pub alike_named : (name : List ℕ) (xs ys : List CellArray) (a : CellArray)
    → map declared xs ≡ map declared ys → array_named name xs ≡ Some a → IsAlike name a ys
alike_named name [] ys a same is = absurd cc
alike_named name (x ∷ xs) [] a same is = absurd cc
alike_named name (x ∷ xs) (y ∷ ys) a same is =
    alike_step name x y a xs ys (bytes_eq x.name name) (cc)
    (refl {a = bytes_eq x.name name}) is (λ h. alike_named name xs ys a (cc) h)

-- ---- a rule that fits the one shape fits the other

declared_step : (name : List ℕ) (x y : CellArray) (xs ys : List CellArray) (same : Bool)
    → declared x ≡ declared y → bytes_eq x.name name ≡ same
    → option_map declared (array_named name xs) ≡ option_map declared (array_named name ys)
    → option_map declared (if same then Some x else array_named name xs)
    ≡ option_map declared (array_named name (y ∷ ys))
declared_step name x y xs ys true declare same rest =
    ap (λ (d : CellArray). Some d) declare
    ∙ sym (ap (λ (b : Bool). option_map declared (cond b (Some y) (array_named name ys)))
    (ap (λ (d : CellArray). bytes_eq d.name name) (sym declare) ∙ same))
declared_step name x y xs ys false declare same rest =
    rest ∙ sym (ap (λ (b : Bool). option_map declared (cond b (Some y) (array_named name ys)))
    (ap (λ (d : CellArray). bytes_eq d.name name) (sym declare) ∙ same))

declared_named : (name : List ℕ) (xs ys : List CellArray) → map declared xs ≡ map declared ys
    → option_map declared (array_named name xs) ≡ option_map declared (array_named name ys)
declared_named name [] [] same = refl
declared_named name [] (y ∷ ys) same = absurd cc
declared_named name (x ∷ xs) [] same = absurd cc
declared_named name (x ∷ xs) (y ∷ ys) same =
    declared_step name x y xs ys (bytes_eq x.name name) (cc)
    (refl {a = bytes_eq x.name name})
    (declared_named name xs ys cc)

can_take_as : (o : Option CellArray) (index : ℕ)
    → can_take o index ≡ can_take (option_map declared o) index
can_take_as None index = refl
can_take_as (Some a) index = refl

can_count_as : (o : Option CellArray) (index : ℕ)
    → can_count o index ≡ can_count (option_map declared o) index
can_count_as None index = refl
can_count_as (Some a) index = refl

module _ (s t : AppShape) (releases : t.releases ≡ s.releases)
    (alike : map declared s.arrays ≡ map declared t.arrays) where
  take_fits : (name : List ℕ) (index : ℕ)
      → can_take (array_named name s.arrays) index ≡ can_take (array_named name t.arrays) index
  take_fits name index =
      can_take_as (array_named name s.arrays) index
      ∙ ap (λ (o : Option CellArray). can_take o index)
      (declared_named name s.arrays t.arrays alike)
      ∙ sym (can_take_as (array_named name t.arrays) index)

  count_fits : (name : List ℕ) (index : ℕ)
      → can_count (array_named name s.arrays) index ≡ can_count (array_named name t.arrays) index
  count_fits name index =
      can_count_as (array_named name s.arrays) index
      ∙ ap (λ (o : Option CellArray). can_count o index)
      (declared_named name s.arrays t.arrays alike)
      ∙ sym (can_count_as (array_named name t.arrays) index)

  test_same : (one : Test) → test_fits s one ≡ test_fits t one
  test_same (test.Version r w) = refl
  test_same (test.Bucket salt modulus r n) = refl
  test_same (test.Today r n) = refl
  test_same (test.Installed r n) = refl
  test_same (test.Flag flag) = refl
  test_same (test.Attr n text) = refl
  test_same (test.Take name index) = take_fits name index

  step_same : (one : Step) → step_fits s one ≡ step_fits t one
  step_same (step.Test line one) = test_same one
  step_same step.Not = refl
  step_same step.And = refl
  step_same step.Or = refl

  steps_same : (ss : List Step) → list_all (step_fits s) ss ≡ list_all (step_fits t) ss
  steps_same [] = refl
  steps_same (one ∷ ss) = ap₂ (λ (b c : Bool). b && c) (step_same one) (steps_same ss)

  statement_same : (one : Statement) → statement_fits s one ≡ statement_fits t one
  statement_same (Count name index) = count_fits name index
  statement_same (When steps release) =
      ap₂ (λ (b : Bool) (n : ℕ). b && (nat_le 1 release && nat_le release n)) (steps_same steps)
      (sym releases)

  rule_same : (rule : List Statement) → fits s rule ≡ fits t rule
  rule_same [] = refl
  rule_same (one ∷ rule) = ap₂ (λ (b c : Bool). b && c) (statement_same one) (rule_same rule)

pub fits_alike : (s t : AppShape) → t.releases ≡ s.releases
    → map declared s.arrays ≡ map declared t.arrays → (rule : List Statement)
    → fits s rule ≡ true → fits t rule ≡ true
fits_alike s t releases alike rule fit = sym (rule_same s t releases alike rule) ∙ fit
