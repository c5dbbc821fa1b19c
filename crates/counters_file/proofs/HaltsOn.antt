-- Lines of halted apps that are read one after another.
use Rattle.std.proofs.Common.{◌≡◌, ℕ, ◌+◌, ◌-◌, ◌<◌, ◌≤◌, List, [], ◌∷◌, ◌++◌, length, ap}
use Rattle.std.proofs.Common.{◌∙◌, Bool, arith, Err, Option, Some, None, sym}
use Rattle.std.proofs.Common.{map, take, drop, get_or, refl}
use Rattle.counters_file.specs.Halts.{halted_in}
use Rattle.counters_file.specs.Text.{contents_from, counters_from, nothing}
use Rattle.counters_file.specs.Text.{when_halted, with_counters}
use Rattle.counters_file.proofs.ReadOn.{first_is}

-- what all lines say is what those that are left say, after these halted apps
pub record IsReadTo (was_stopped : Bool) (lines : List (List ℕ)) (number : ℕ)
    (left : List (List ℕ)) (now : List (List ℕ)) : Type 0 where
  pub same : contents_from was_stopped 3 lines [] ≡ contents_from was_stopped number left now
  pub count : number + length left ≡ 3 + length lines

module _ {A : Type 0} (f : A → List ℕ) (rest : List A) (d : A) (n : ℕ) {s : Bool}
    {all : List (List ℕ)} {number : ℕ} {now : List (List ℕ)} where
  -- the first line that is left
  goes_on : 1 ≤ length rest → n ≡ length rest → IsReadTo s all number (map f rest) now
      → (found : Option (List ℕ)) → halted_in (f (get_or rest 0 d)) ≡ found
      → contents_from s 3 all []
      ≡ when_halted found
      (λ appid. contents_from s (number + 1) (map f (take (n - 1) (drop 1 rest)))
      (now ++ appid ∷ []))
      (with_counters s now (counters_from number (map f rest) nothing))
  goes_on some count on found is =
      let line = f (get_or rest 0 d) in
      let others = map f (take (n - 1) (drop 1 rest)) in
      let parts = first_is f rest d n some count in
      on.same ∙ ap (λ ls. contents_from s number ls now) parts
      ∙ ap (λ (o : Option (List ℕ)). when_halted o
      (λ appid. contents_from s (number + 1) others (now ++ appid ∷ []))
      (with_counters s now (counters_from number (line ∷ others) nothing))) is
      ∙ ap (λ ls. when_halted found
      (λ appid. contents_from s (number + 1) others (now ++ appid ∷ []))
      (with_counters s now (counters_from number ls nothing))) (sym parts)

  -- it names a halted app
  pub read_one : 1 ≤ length rest → n ≡ length rest → IsReadTo s all number (map f rest) now
      → (appid : List ℕ) → halted_in (f (get_or rest 0 d)) ≡ Some appid
      → (more : List (List ℕ)) → more ≡ now ++ appid ∷ []
      → IsReadTo s all (number + 1) (map f (take (n - 1) (drop 1 rest))) more
  read_one some count on appid is more are = record {
    same =
        goes_on some count on (Some appid) is
        ∙ ap (λ ls. contents_from s (number + 1) (map f (take (n - 1) (drop 1 rest))) ls)
        (sym are);
    count =
        let size = ap length (first_is f rest d n some count) in
        omega (arith, on.count, size);
  }

  -- or it doesn't
  pub no_more : 1 ≤ length rest → n ≡ length rest → IsReadTo s all number (map f rest) now
      → halted_in (f (get_or rest 0 d)) ≡ None
      → contents_from s 3 all [] ≡ with_counters s now (counters_from number (map f rest) nothing)
  no_more some count on is = goes_on some count on None is

-- no line is left
pub runs_out : {A : Type 0} (f : A → List ℕ) (rest : List A) {s : Bool} {all : List (List ℕ)}
    {number : ℕ} {now : List (List ℕ)} → length rest < 1
    → IsReadTo s all number (map f rest) now → contents_from s 3 all [] ≡ Err number
runs_out {A} f rest {s} {all} {number} {now} none on = on.same ∙ at rest none
  where
    at : (xs : List A) → length xs < 1 → contents_from s number (map f xs) now ≡ Err number
    at [] none = refl
    at (x ∷ xs) none = absurd (omega (arith, none))
