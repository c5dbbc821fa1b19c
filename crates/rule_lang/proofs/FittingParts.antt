-- Tests and statements that were read fit the shape, which was checked for their arrays, indexes
-- and releases.
use Rattle.std.proofs.Common.{◌≡◌, ℕ, ◌+◌, List, [], ◌∷◌}
use Rattle.std.proofs.Common.{Option, Some, None}
use Rattle.std.proofs.Common.{Ok, Err, Bool, true, false, if◌then◌else◌, refl, sym, ap, ◌∙◌, subst}
use Rattle.std.specs.Prelude.{not, is_some, nat_lt}
use Rattle.std.specs.Cmp.Derive.{both_true}
use Rattle.std.specs.Str.{bytes_eq}
use Rattle.std.proofs.lemmas.Slice.Eq.{bytes_eq-Decides}
use Rattle.cells.specs.Arrays.{AppShape}
use Rattle.cells.specs.declared.array.CellArray.{CellArray}
use Rattle.rule_lang.specs.declared.rule.Statement.TheVariants.{Count}
use Rattle.rule_lang.specs.declared.test.Test.{Test}
use Rattle.rule_lang.specs.declared.phrase.Want.TheVariants as want
use Rattle.rule_lang.specs.declared.test.Test.TheVariants as test
use Rattle.rule_lang.specs.declared.test_table.TestKind.{TestKind}
use Rattle.rule_lang.specs.declared.test_table.TestKind.TheVariants as the_kind
use Rattle.rule_lang.specs.Fits.{can_take, can_count, is_release, test_fits}
use Rattle.rule_lang.specs.Fits.{statement_fits}
use Rattle.rule_lang.specs.Lexed.{Placed}
use Rattle.rule_lang.specs.Parts.{OrFault, ◌>>?◌, part, number, salt, modulus, version, flag}
use Rattle.rule_lang.specs.Parts.{attribute}
use Rattle.rule_lang.specs.Parts.{array, array_if, index, release, within, unknown, same}
use Rattle.rule_lang.specs.Parts.{out_of_range, comparison}
use Rattle.rule_lang.specs.Values.{count_of}
use Rattle.rule_lang.specs.Shapes.{array_named}
use Rattle.rule_lang.specs.Tests.{row, take_test, begins, optional, past, bucket_test, attr_test}
use Rattle.rule_lang.specs.Tests.{literal}
use Rattle.rule_lang.proofs.Keeping.{same_ok, no_ok, bound}

-- ---- arrays by their names

named_is : (name : List ℕ) (arrays : List CellArray) (a : CellArray)
    → array_named name arrays ≡ Some a → a.name ≡ name
named_is name [] a is = absurd cc
named_is name (b ∷ rest) a is = by_name (bytes_eq b.name name) refl (λ h. named_is name rest a h)
  where
    by_name : (t : Bool) → bytes_eq b.name name ≡ t
        → (array_named name rest ≡ Some a → a.name ≡ name) → a.name ≡ name
    by_name true e go =
        let found : Some b ≡ Some a = ap (λ (t : Bool). if t then Some b else array_named name rest)
        (sym e) ∙ is in
        let eq : b ≡ a = cc in
        sym (ap (λ (c : CellArray). c.name) eq) ∙ (bytes_eq-Decides b.name name).0 e
    by_name false e go =
        go (ap (λ (t : Bool). if t then Some b else array_named name rest) (sym e) ∙ is)

-- an array that is found by a name is also found by its own
named_again : (name : List ℕ) (arrays : List CellArray) (a : CellArray)
    → array_named name arrays ≡ Some a → array_named a.name arrays ≡ Some a
named_again name arrays a is =
    ap (λ (n : List ℕ). array_named n arrays) (named_is name arrays a is) ∙ is

record Found (s : AppShape) (quota : Bool) (a : CellArray) : Type 0 where
  named : array_named a.name s.arrays ≡ Some a
  kind : same (is_some a.quota) quota ≡ true

array_is : (s : AppShape) (quota : Bool) (p : Placed) (name : List ℕ) (o : Option CellArray)
    (a : CellArray) → array_named name s.arrays ≡ o → array_if quota p o ≡ Ok a → Found s quota a
array_is s quota p name None a is h = absurd (no_ok (unknown p) a h)
array_is s quota p name (Some b) a is h = by_kind (same (is_some b.quota) quota) refl
  where
    by_kind : (t : Bool) → same (is_some b.quota) quota ≡ t → Found s quota a
    by_kind true e =
        let given : ◌≡◌ {A = OrFault CellArray} (Ok b) (Ok a) = ap (λ (t : Bool). if t then Ok b
        else Err (unknown p)) (sym e) ∙ h in
        subst (λ (c : CellArray). Found s quota c) (same_ok b a given) (record {
          named = named_again name s.arrays b is;
          kind = e;
        })
    by_kind false e = absurd (no_ok (unknown p) a (ap (λ (t : Bool). if t then Ok b else
        Err (unknown p)) (sym e) ∙ h))

array_found : (s : AppShape) (quota : Bool) (p : Placed) (a : CellArray)
    → array s quota p ≡ Ok a → Found s quota a
array_found s quota p a h = array_is s quota p _ _ a refl h

-- ---- numbers

within_is : (holds : ℕ → Bool) (p : Placed) (n m : ℕ) → within holds p n ≡ Ok m → holds m ≡ true
within_is holds p n m h = by_test (holds n) refl
  where
    by_test : (t : Bool) → holds n ≡ t → holds m ≡ true
    by_test true e =
        let given : ◌≡◌ {A = OrFault ℕ} (Ok n) (Ok m) = ap (λ (t : Bool). if t then Ok n else
        Err (out_of_range p)) (sym e) ∙ h in
        subst (λ (k : ℕ). holds k ≡ true) (same_ok n m given) e
    by_test false e = absurd (no_ok (out_of_range p) m (ap (λ (t : Bool). if t then Ok n else
        Err (out_of_range p)) (sym e) ∙ h))

index_is : (a : CellArray) (p : Placed) (i : ℕ) → index a p ≡ Ok i → nat_lt i a.length ≡ true
index_is a p i h =
    let b = bound (number p) (λ n. within (λ n. nat_lt n a.length) p n) i h in
    within_is (λ n. nat_lt n a.length) p b.value i b.after

pub release_is : (s : AppShape) (p : Placed) (k : ℕ) → release s p ≡ Ok k → is_release s k ≡ true
release_is s p k h =
    let b = bound (number p) (λ n. within (is_release s) p n) k h in
    within_is (is_release s) p b.value k b.after

-- ---- values that were read

-- the predicate holds unless there is a fault
abbrev pub IfRead : {A : Type 0} → (A → Bool) → OrFault A → Type 0
IfRead holds (Ok x) = holds x ≡ true
IfRead holds (Err e) = Unit {0}

pub each : {A B : Type 0} (holds : B → Bool) (o : OrFault A) (f : A → OrFault B)
    → ((x : A) → o ≡ Ok x → IfRead holds (f x)) → IfRead holds (o >>? f)
each holds (Ok x) f h = h x refl
each holds (Err e) f h = tt

counts : (s : AppShape) (a : CellArray) (i : ℕ) → Found s false a → nat_lt i a.length ≡ true
    → can_count (array_named a.name s.arrays) i ≡ true
counts s a i f lt = subst (λ (o : Option CellArray). can_count o i ≡ true) (sym f.named) (both_true
    (without (is_some a.quota) f.kind) lt)
  where
    without : (b : Bool) → same b false ≡ true → not b ≡ true
    without true h = absurd cc
    without false h = refl

takes : (s : AppShape) (a : CellArray) (i : ℕ) → Found s true a → nat_lt i a.length ≡ true
    → can_take (array_named a.name s.arrays) i ≡ true
takes s a i f lt = subst (λ (o : Option CellArray). can_take o i ≡ true) (sym f.named) (both_true
    (with_one (is_some a.quota) f.kind) lt)
  where
    with_one : (b : Bool) → same b true ≡ true → b ≡ true
    with_one true h = refl
    with_one false h = absurd cc

pub count_fits : (s : AppShape) (ts : List Placed) → IfRead (statement_fits s) (count_of s ts)
count_fits s ts = each (statement_fits s) (array s false (part ts 1)) (λ a. index a (part ts 3)
    >>? λ i. Ok (Count a.name i)) (λ a h. each (statement_fits s) (index a (part ts 3)) (λ i. Ok
    (Count a.name i)) (λ i k. counts s a i (array_found s false (part ts 1) a h) (index_is a (part
    ts 3) i k)))

take_fits : (s : AppShape) (ts : List Placed) → IfRead (test_fits s) (take_test s ts)
take_fits s ts = each (test_fits s) (array s true (part ts 2)) (λ a. index a (part ts 4)
    >>? λ i. Ok (test.Take a.name i)) (λ a h. each (test_fits s) (index a (part ts 4)) (λ i. Ok
    (test.Take a.name i)) (λ i k. takes s a i (array_found s true (part ts 2) a h) (index_is a (part
    ts 4) i k)))

-- all other tests fit
free : {A : Type 0} (s : AppShape) (o : OrFault A) (f : A → Test) → ((x : A) → test_fits s (f x)
    ≡ true) → IfRead (test_fits s) (o >>? λ x. Ok (f x))
free s (Ok x) f h = h x
free s (Err e) f h = tt

-- the last of three numbers
free_third : {A B C : Type 0} (s : AppShape) (o : OrFault A) (p : OrFault B) (q : OrFault C)
    (f : A → B → C → Test) → ((x : A) (y : B) (z : C) → test_fits s (f x y z) ≡ true)
    → IfRead (test_fits s) (o >>? λ x. p >>? λ y. q >>? λ z. Ok (f x y z))
free_third s (Ok x) (Ok y) q f h = free s q (f x y) (h x y)
free_third s (Ok x) (Err e) q f h = tt
free_third s (Err e) p q f h = tt

bucket_fits : (s : AppShape) (ts : List Placed) → IfRead (test_fits s) (bucket_test ts)
bucket_fits s ts =
    let salted = begins want.Salt ts 1 in
    let j = past salted 3 1 in
    let divided = begins want.Modulus ts j in
    let k = past divided 2 j in
    free_third s (optional salted (salt (part ts 2))) (optional divided (modulus (part ts (j + 1))))
    (number (part ts (k + 1))) (λ n m l. test.Bucket n m (comparison (part ts k)) l) (λ n m l. refl)

attr_fits : (s : AppShape) (ts : List Placed) → IfRead (test_fits s) (attr_test ts)
attr_fits s ts = each (test_fits s) (attribute (part ts 1)) (λ a. literal (part ts 3) >>? λ text.
    Ok (test.Attr a text)) (λ a h. free s (literal (part ts 3)) (λ text. test.Attr a text) (λ text.
    refl))

pub by_kind : (s : AppShape) (ts : List Placed) (k : TestKind)
    → IfRead (test_fits s) ((row k).spelled s ts)
by_kind s ts the_kind.Version =
    free s (version (part ts 2)) (λ v. test.Version (comparison (part ts 1)) v) (λ v. refl)
by_kind s ts the_kind.Bucket = bucket_fits s ts
by_kind s ts the_kind.Today =
    free s (number (part ts 2)) (λ n. test.Today (comparison (part ts 1)) n) (λ n. refl)
by_kind s ts the_kind.Installed =
    free s (number (part ts 2)) (λ n. test.Installed (comparison (part ts 1)) n) (λ n. refl)
by_kind s ts the_kind.Flag = free s (flag (part ts 1)) (λ f. test.Flag f) (λ f. refl)
by_kind s ts the_kind.Attr = attr_fits s ts
by_kind s ts the_kind.Take = take_fits s ts
