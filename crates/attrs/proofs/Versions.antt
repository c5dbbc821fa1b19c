-- How a version is read, part by part.
use Rattle.std.proofs.Common.{◌≡◌, ℕ, suc, ◌+◌, ◌-◌, ◌<◌, ◌≤◌, List, [], ◌∷◌, ◌++◌}
use Rattle.std.proofs.Common.{length, map, replicate, set, Option, Some, None, true}
use Rattle.std.proofs.Common.{false, refl, ap, sym, ◌∙◌, append-nil, append_assoc, arith}
use Rattle.std.specs.List.{list_all}
use Rattle.std.specs.Str.Parse.{digits_value}
use Rattle.std.proofs.lemmas.Iterator.{YieldsList}
use Rattle.std.proofs.lemmas.Option.{cond_some}
use Rattle.std.proofs.lemmas.List.Folds.{list_all-append}
use Rattle.std.proofs.lemmas.Grind.{common_steps}
use Rattle.attrs.specs.Version.{decimal_number, is_decimal_number, parts_of, version_of}
use Rattle.attrs.proofs.Numbers.{decimal_number-None}

set_next : (f : List ℕ → ℕ) (done : List (List ℕ)) (part : List ℕ) (k : ℕ)
    → set (map f done ++ (0 ∷ replicate k 0)) (length done) (f part)
    ≡ map f (done ++ (part ∷ [])) ++ replicate k 0
set_next f [] part k = refl
set_next f (p ∷ done) part k = ap (λ ns. f p ∷ ns) (set_next f done part k)

-- Of a text's parts, which an iterator returns and v maps to bytes, `done` were read as these
-- numbers, and `rest` are still to be returned from s.
pub record IsRead {S A : Type 0} (steps : S → Option A → S → Type 0) (v : A → List ℕ)
    (text : List ℕ) (s : S) (count : ℕ) (numbers : List ℕ) : Type 0 where
  pub done : List (List ℕ)
  pub rest : List (List ℕ)
  pub parts : parts_of text ≡ done ++ rest
  pub yields : YieldsList steps v s rest
  pub count_is : length done ≡ count
  pub few : count ≤ 4
  pub each : list_all is_decimal_number done ≡ true
  pub numbers_are : numbers ≡ map (digits_value 10) done ++ replicate (4 - count) 0

-- the next part
next : {S A : Type 0} {steps : S → Option A → S → Type 0} {v : A → List ℕ} {s : S}
    (t : S) (x : A) (rest : List (List ℕ)) → YieldsList steps v s rest → steps s (Some x) t
    → (more : List (List ℕ)) × (rest ≡ v x ∷ more) × YieldsList steps v t more
next t x [] yields step = absurd (yields.runs _ _ step)
next t x (part ∷ more) yields step =
    let k = yields.runs.1 _ _ step in
    (more, ap (λ z. z ∷ more) (sym k.0), record { runs = k.1 })

module _ {S A : Type 0} {steps : S → Option A → S → Type 0} {v : A → List ℕ} {text : List ℕ} where
  pub read-none : (s : S) → YieldsList steps v s (parts_of text)
      → IsRead steps v text s 0 (replicate 4 0)
  read-none s yields = record {
    done = [];
    rest = parts_of text;
    parts = refl;
    yields = yields;
    count_is = refl;
    few = omega arith;
    each = refl;
    numbers_are = refl;
  }

  pub read-too_many : {s : S} {numbers : List ℕ} (t : S) (x : A)
      → IsRead steps v text s 4 numbers → steps s (Some x) t → version_of text ≡ None
  read-too_many {s} t x h step =
      let k = next t x h.rest h.yields step in
      let parts : parts_of text ≡ h.done ++ (v x ∷ k.0) = rw (← k.1) h.parts in
      let n = h.count_is in
      grind (arith, common_steps)

  pub read-not_number : {s : S} {count : ℕ} {numbers : List ℕ} (t : S) (x : A)
      → IsRead steps v text s count numbers → steps s (Some x) t
      → decimal_number (v x) ≡ None → version_of text ≡ None
  read-not_number {s} t x h step none =
      let k = next t x h.rest h.yields step in
      let wrong : is_decimal_number (v x) ≡ false =
      decimal_number-None (is_decimal_number (v x)) _ none in
      let some : list_all is_decimal_number (parts_of text) ≡ false =
      rw (h.parts, k.1, list_all-append, h.each, wrong) refl in
      grind (arith, common_steps)

  pub read-number : {s : S} {count : ℕ} {numbers : List ℕ} (t : S) (x : A) (n : ℕ)
      → IsRead steps v text s count numbers → steps s (Some x) t → count < 4
      → decimal_number (v x) ≡ Some n → IsRead steps v text t (count + 1) (set numbers count n)
  read-number {s} {count} t x n h step room is =
      let k = next t x h.rest h.yields step in
      let good = cond_some (is_decimal_number (v x)) (digits_value 10 (v x)) n is in
      let left : 4 - count ≡ suc (4 - (count + 1)) = omega arith in
      record {
        done = h.done ++ (v x ∷ []);
        rest = k.0;
        parts = h.parts ∙ ap (λ ps. h.done ++ ps) k.1 ∙ sym (append_assoc h.done (v x ∷ []) k.0);
        yields = k.2;
        count_is = grind (arith, common_steps, h.count_is);
        few = omega arith;
        each = rw (list_all-append, h.each, good.0) refl;
        numbers_are = rw (h.numbers_are, left, ← h.count_is, ← good.1)
            (set_next (digits_value 10) h.done (v x) (4 - (length h.done + 1)));
      }

  pub read-all : {s : S} {count : ℕ} {numbers : List ℕ} (t : S)
      → IsRead steps v text s count numbers → steps s None t → version_of text ≡ Some numbers
  read-all {s} t h step =
      let none : h.rest ≡ [] = end h.rest h.yields in
      let parts : parts_of text ≡ h.done = rw (h.parts, none) (append-nil h.done) in
      let short : length h.done ≤ 4 = omega (arith, h.count_is, h.few) in
      rw (parts, h.each) (
      let n = h.count_is in
      let e = h.numbers_are in
      grind (arith, common_steps))
    where
      end : (rest : List (List ℕ)) → YieldsList steps v s rest → rest ≡ []
      end [] yields = refl
      end (part ∷ more) yields = absurd (yields.runs.0 _ step)
