-- Lines that are read one after another.
use Rattle.std.proofs.Common.{◌≡◌, ℕ, ◌+◌, ◌-◌, ◌<◌, ◌≤◌, List, [], ◌∷◌, length, refl, sym, ap, ◌∙◌}
use Rattle.std.proofs.Common.{Bool, true, false, arith, Result, Ok, Err, Option, Some, None}
use Rattle.std.proofs.Common.{map, take, drop, get_or}
use Rattle.std.specs.Prelude.{if◌then◌else◌}
use Rattle.std.proofs.lemmas.List.{take_all}
use Rattle.cells.specs.Events.{AreCells}
use Rattle.counters_file.specs.Lines.{Counters, with_line}
use Rattle.counters_file.specs.Text.{counters_from, is_over, when_right}
use Rattle.counters_file.specs.declared.contents.ReadFault.TheVariants.{Damaged}

-- what all lines give is what those that are left give, from these counters on
pub record IsReadOn (lines : List (List ℕ)) (old : Counters) (start number : ℕ)
    (left : List (List ℕ)) (now : Counters) : Type 0 where
  pub same : counters_from start lines old ≡ counters_from number left now
  pub cells : AreCells now.values
  pub count : number + length left ≡ start + length lines

-- the first of the lines that are left, and the others
pub first_is : {A : Type 0} (f : A → List ℕ) (rest : List A) (d : A) (n : ℕ)
    → 1 ≤ length rest → n ≡ length rest
    → map f rest ≡ f (get_or rest 0 d) ∷ map f (take (n - 1) (drop 1 rest))
first_is {A} f rest d n some count = at rest some count
  where
    at : (xs : List A) → 1 ≤ length xs → n ≡ length xs
        → map f xs ≡ f (get_or xs 0 d) ∷ map f (take (n - 1) (drop 1 xs))
    at [] some count = absurd (omega (arith, some))
    at (x ∷ xs) some count =
        ap (λ ys. f x ∷ map f ys) (sym (take_all (n - 1) xs (omega (arith, count))))

module _ {A : Type 0} (f : A → List ℕ) (rest : List A) (d : A) (n : ℕ) {all : List (List ℕ)}
    {old : Counters} {start number : ℕ} {now : Counters} where
  -- an ending
  pub ends : 1 ≤ length rest → n ≡ length rest → IsReadOn all old start number (map f rest) now
      → (b : Bool) → b ≡ is_over (f (get_or rest 0 d)) (map f (take (n - 1) (drop 1 rest)))
      → b ≡ true → counters_from start all old ≡ Ok now
  ends some count on b is_end is_true =
      let line = f (get_or rest 0 d) in
      let others = map f (take (n - 1) (drop 1 rest)) in
      on.same ∙ ap (λ ls. counters_from number ls now) (first_is f rest d n some count)
      ∙ ap (λ (e : Bool). if e then Ok now
      else when_right (with_line line now) number (counters_from (number + 1) others))
      (sym is_end ∙ is_true)

  -- a line that isn't the ending
  goes_on : 1 ≤ length rest → n ≡ length rest → IsReadOn all old start number (map f rest) now
      → (b : Bool) → b ≡ is_over (f (get_or rest 0 d)) (map f (take (n - 1) (drop 1 rest)))
      → b ≡ false → (made : Option Counters) → with_line (f (get_or rest 0 d)) now ≡ made
      → counters_from start all old ≡ when_right made number
      (counters_from (number + 1) (map f (take (n - 1) (drop 1 rest))))
  goes_on some count on b is_end is_false made is =
      let line = f (get_or rest 0 d) in
      let others = map f (take (n - 1) (drop 1 rest)) in
      on.same ∙ ap (λ ls. counters_from number ls now) (first_is f rest d n some count)
      ∙ ap (λ (e : Bool). if e then Ok now
      else when_right (with_line line now) number (counters_from (number + 1) others))
      (sym is_end ∙ is_false)
      ∙ ap (λ (o : Option Counters). when_right o number (counters_from (number + 1) others)) is

  -- a right one
  pub read_one : 1 ≤ length rest → n ≡ length rest → IsReadOn all old start number (map f rest) now
      → (b : Bool) → b ≡ is_over (f (get_or rest 0 d)) (map f (take (n - 1) (drop 1 rest)))
      → b ≡ false → (more : Counters) → with_line (f (get_or rest 0 d)) now ≡ Some more
      → AreCells more.values
      → IsReadOn all old start (number + 1) (map f (take (n - 1) (drop 1 rest))) more
  read_one some count on b is_end is_false more is fit = record {
    same = goes_on some count on b is_end is_false (Some more) is;
    cells = fit;
    count =
        let size = ap length (first_is f rest d n some count) in
        omega (arith, on.count, size);
  }

  -- and a wrong one
  pub stops : 1 ≤ length rest → n ≡ length rest → IsReadOn all old start number (map f rest) now
      → (b : Bool) → b ≡ is_over (f (get_or rest 0 d)) (map f (take (n - 1) (drop 1 rest)))
      → b ≡ false → with_line (f (get_or rest 0 d)) now ≡ None
      → counters_from start all old ≡ Err number
  stops some count on b is_end is_false is = goes_on some count on b is_end is_false None is

-- no line is left
pub runs_out : {A : Type 0} (f : A → List ℕ) (rest : List A) {all : List (List ℕ)}
    {old : Counters} {start number : ℕ} {now : Counters} → length rest < 1
    → IsReadOn all old start number (map f rest) now → counters_from start all old ≡ Err number
runs_out {A} f rest {all} {old} {start} {number} {now} none on = on.same ∙ at rest none
  where
    at : (xs : List A) → length xs < 1 → counters_from number (map f xs) now ≡ Err number
    at [] none = refl
    at (x ∷ xs) none = absurd (omega (arith, none))

pub of_line : {C : Type 0} (x : Result C ℕ) (n line : ℕ) → x ≡ Err n
    → Damaged n ≡ Damaged line → x ≡ Err line
of_line x n line is same = cc
