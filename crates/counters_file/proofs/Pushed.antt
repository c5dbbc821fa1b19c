-- Lines that are appended one after another.
use Rattle.std.proofs.Common.{◌≡◌, ℕ, zero, suc, ◌+◌, ◌-◌, ◌≤◌, List, [], ◌∷◌, ◌++◌, length}
use Rattle.std.proofs.Common.{sym, ap, subst, ◌∙◌, arith, append-nil, append_assoc}
use Rattle.std.proofs.Common.{map, take, drop, get_or}
use Rattle.std.specs.Prelude.{All, flat_map}
use Rattle.std.specs.List.{range_with_len}
use Rattle.std.proofs.lemmas.Grind.{flat_map-append}
use Rattle.std.proofs.lemmas.List.{take_all}
use Rattle.std.proofs.lemmas.List.Elements.{All-cons}
use Rattle.counters_file.specs.Text.{ended}

module _ {A : Type 0} (f : A → List ℕ) where
  -- the line of the first element that is left
  pub line_pushed : (left : List A) (a d : A) (n : ℕ) (text new all : List ℕ) → 1 ≤ length left
      → n ≡ length left → get_or left 0 d ≡ a → text ++ flat_map ended (map f left) ≡ all
      → new ≡ text ++ ended (f a)
      → new ++ flat_map ended (map f (take (n - 1) (drop 1 left))) ≡ all
  line_pushed [] a d n text new all some count first so_far pushed =
      absurd (omega (arith, some))
  line_pushed (x ∷ xs) a d n text new all some count first so_far pushed =
      let more = flat_map ended (map f xs) in
      ap (λ ys. new ++ flat_map ended (map f ys)) (take_all (n - 1) xs (omega (arith, count)))
      ∙ ap (λ (bs : List ℕ). bs ++ more) (pushed ∙ ap (λ y. text ++ ended (f y)) (sym first))
      ∙ append_assoc text (ended (f x)) more ∙ so_far

  -- what holds of all, if it holds of the elements that are left
  pub one_seen : (P : A → Type 0) (left all : List A) (a d : A) (n : ℕ) → 1 ≤ length left
      → n ≡ length left → get_or left 0 d ≡ a → (All P left → All P all) → P a
      → All P (take (n - 1) (drop 1 left)) → All P all
  one_seen P [] all a d n some count first others is rest = absurd (omega (arith, some))
  one_seen P (x ∷ xs) all a d n some count first others is rest =
      others (All-cons P x xs (subst P (sym first) is)
      (subst (λ ys. All P ys) (take_all (n - 1) xs (omega (arith, count))) rest))

range_more : (a n : ℕ) → range_with_len a (suc n) ≡ range_with_len a n ++ (a + n) ∷ []
range_more a zero = ap (λ (k : ℕ). k ∷ []) (omega arith)
range_more a (suc n) =
    ap (λ ks. a ∷ ks) (range_more (a + 1) n
    ∙ ap (λ (k : ℕ). range_with_len (a + 1) n ++ k ∷ []) (omega arith))

-- the lines of one more index
pub lines_pushed : (f : ℕ → List (List ℕ)) (n : ℕ) (old text new : List ℕ)
    → text ≡ old ++ flat_map ended (flat_map f (range_with_len 0 n))
    → new ≡ text ++ flat_map ended (f n)
    → new ≡ old ++ flat_map ended (flat_map f (range_with_len 0 (n + 1)))
lines_pushed f n old text new so_far pushed =
    let before = flat_map f (range_with_len 0 n) in
    let last : flat_map f (n ∷ []) ≡ f n = append-nil (f n) in
    let one : n + 1 ≡ suc n = omega arith in
    let start : 0 + n ≡ n = omega arith in
    let all : flat_map f (range_with_len 0 (n + 1)) ≡ before ++ f n =
    ap (λ ks. flat_map f ks) (ap (λ (k : ℕ). range_with_len 0 k) one
    ∙ range_more 0 n ∙ ap (λ (k : ℕ). range_with_len 0 n ++ k ∷ []) start)
    ∙ flat_map-append f (range_with_len 0 n) (n ∷ []) ∙ ap (λ ls. before ++ ls) last in
    pushed ∙ ap (λ (bs : List ℕ). bs ++ flat_map ended (f n)) so_far
    ∙ append_assoc old (flat_map ended before) (flat_map ended (f n))
    ∙ ap (λ (bs : List ℕ). old ++ bs) (sym (flat_map-append ended before (f n)))
    ∙ ap (λ ls. old ++ flat_map ended ls) (sym all)
