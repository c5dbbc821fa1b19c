-- The first event of a pass is that of one of its runs, which has a place among the runs of all
-- passes.
use Rattle.std.proofs.Common.{◌≡◌, ◌≢◌, ℕ, zero, suc, ◌+◌, ◌-◌, ◌<◌, List, [], ◌∷◌, ◌++◌, length}
use Rattle.std.proofs.Common.{get_or, set, refl, sym, ap, ◌∙◌, arith, get_or-append-add, length-set}
use Rattle.std.proofs.Common.{Bool, true, false}
use Rattle.std.specs.Prelude.{flat_map, nat_lt, if◌then◌else◌}
use Rattle.std.proofs.lemmas.Bool.Decides.{nat_tests}
use Rattle.std.proofs.lemmas.List.{length-append, get_or_append_left, set-append_left}
use Rattle.std.proofs.lemmas.List.{set-append_right}
use Rattle.cells.specs.declared.event.CellEvent.{CellEvent}
use Rattle.thread_laws.specs.Passes.{pass_of_run}

-- lists of one run each, concatenated
abbrev pub joined : {A : Type 0} → List (List A) → List A
joined = flat_map (λ l. l)

record TakenIn (runs : List (List CellEvent)) (e : CellEvent) (es : List CellEvent) : Type 0 where
  place : ℕ
  rest : List CellEvent
  inside : place < length runs
  found : get_or runs place [] ≡ e ∷ rest
  left : joined (set runs place rest) ≡ es

taken_in : (runs : List (List CellEvent)) (e : CellEvent) (es : List CellEvent)
    → joined runs ≡ e ∷ es → TakenIn runs e es
taken_in [] e es is = absurd cc
taken_in ([] ∷ runs) e es is =
    let later = taken_in runs e es is in
    let less = later.inside in
    record {
      place = suc later.place;
      rest = later.rest;
      inside = omega (arith, less);
      found = later.found;
      left = later.left;
    }
taken_in ((d ∷ l) ∷ runs) e es is =
    let same : d ≡ e = cc in
    let tail : l ++ joined runs ≡ es = cc in
    record {
      place = zero;
      rest = l;
      inside = omega arith;
      found = ap (λ (f : CellEvent). f ∷ l) same;
      left = tail;
    }

-- the event is the first of one of the pass's runs, which has a place among all runs
pub record Taken (cuts : List (List (List CellEvent))) (p : ℕ) (e : CellEvent)
    (es : List CellEvent) : Type 0 where
  pub place : ℕ
  pub rest : List CellEvent
  pub after : List (List (List CellEvent))
  pub inside : place < length (joined cuts)
  pub found : get_or (joined cuts) place [] ≡ e ∷ rest
  pub joined_are : joined after ≡ set (joined cuts) place rest
  pub own : joined (get_or after p []) ≡ es
  pub others : (q : ℕ) → q ≢ p → get_or after q [] ≡ get_or cuts q []
  pub by_pass : pass_of_run cuts place ≡ p
  pub alike : (k : ℕ) → pass_of_run after k ≡ pass_of_run cuts k

longer : (xs ys : List (List CellEvent)) (k : ℕ) → k < length xs → k < length (xs ++ ys)
longer xs ys k less = let sum = length-append xs ys in omega (arith, less, sum)

behind : (xs ys : List (List CellEvent)) (k : ℕ) → k < length ys
    → length xs + k < length (xs ++ ys)
behind xs ys k less = let sum = length-append xs ys in omega (arith, less, sum)

set_behind : (xs ys : List (List CellEvent)) (k : ℕ) (y : List CellEvent)
    → set (xs ++ ys) (length xs + k) y ≡ xs ++ set ys k y
set_behind xs ys k y =
    let n = length xs in
    let back : n + k - n ≡ k = omega arith in
    set-append_right xs ys n (n + k) y refl (omega arith)
    ∙ ap (λ (i : ℕ). xs ++ set ys i y) back

-- ---- which pass did a run

less_is : (j k : ℕ) → j < k → nat_lt j k ≡ true
less_is j k less = grind (arith, nat_tests)

past_is : (n k : ℕ) → nat_lt (n + k) n ≡ false
past_is n k = grind (arith, nat_tests)

module _ (c : List (List CellEvent)) (cuts : List (List (List CellEvent))) where
  abbrev by_test : ℕ → Bool → ℕ
  by_test k b = if b then 0 else suc (pass_of_run cuts (k - length c))

  first_pass : (k : ℕ) → k < length c → pass_of_run (c ∷ cuts) k ≡ 0
  first_pass k less = ap (by_test k) (less_is k (length c) less)

  later_pass : (k : ℕ) → pass_of_run (c ∷ cuts) (length c + k) ≡ suc (pass_of_run cuts k)
  later_pass k =
      let n = length c in
      let back : n + k - n ≡ k = omega arith in
      ap (by_test (n + k)) (past_is n k)
      ∙ ap (λ (i : ℕ). suc (pass_of_run cuts i)) back

  same_length : (d : List (List CellEvent)) → length d ≡ length c → (k : ℕ)
      → pass_of_run (d ∷ cuts) k ≡ pass_of_run (c ∷ cuts) k
  same_length d same k =
      ap (λ (n : ℕ). if nat_lt k n then 0 else suc (pass_of_run cuts (k - n))) same

  alike_later : (after : List (List (List CellEvent)))
      → ((k : ℕ) → pass_of_run after k ≡ pass_of_run cuts k) → (k : ℕ)
      → pass_of_run (c ∷ after) k ≡ pass_of_run (c ∷ cuts) k
  alike_later after same k =
      ap (λ (p : ℕ). if nat_lt k (length c) then 0 else suc p) (same (k - length c))

-- ---- the first event of a pass

pub taken : (cuts : List (List (List CellEvent))) (p : ℕ) (e : CellEvent) (es : List CellEvent)
    → joined (get_or cuts p []) ≡ e ∷ es → Taken cuts p e es
taken [] p e es is = absurd cc
taken (c ∷ cuts) zero e es is =
    let t = taken_in c e es is in
    record {
      place = t.place;
      rest = t.rest;
      after = set c t.place t.rest ∷ cuts;
      inside = longer c (joined cuts) t.place t.inside;
      found = get_or_append_left c (joined cuts) [] t.place t.inside ∙ t.found;
      joined_are = sym (set-append_left c (joined cuts) t.place t.rest t.inside);
      own = t.left;
      others = others;
      by_pass = first_pass c cuts t.place t.inside;
      alike = same_length c cuts (set c t.place t.rest) (length-set c t.place t.rest);
    }
  where
    others : (q : ℕ) → q ≢ zero
        → get_or (set c (taken_in c e es is).place (taken_in c e es is).rest ∷ cuts) q []
        ≡ get_or (c ∷ cuts) q []
    others zero other = absurd (other refl)
    others (suc q) other = refl
taken (c ∷ cuts) (suc p) e es is = more (taken cuts p e es is)
  where
    more : Taken cuts p e es → Taken (c ∷ cuts) (suc p) e es
    more t = record {
      place = length c + t.place;
      rest = t.rest;
      after = c ∷ t.after;
      inside = behind c (joined cuts) t.place t.inside;
      found = get_or-append-add c (joined cuts) t.place [] ∙ t.found;
      joined_are =
          ap (λ (l : List (List CellEvent)). c ++ l) t.joined_are
          ∙ sym (set_behind c (joined cuts) t.place t.rest);
      own = t.own;
      others = others;
      by_pass = later_pass c cuts t.place ∙ ap suc t.by_pass;
      alike = alike_later c cuts t.after t.alike;
    }
      where
        others : (q : ℕ) → q ≢ suc p → get_or (c ∷ t.after) q [] ≡ get_or (c ∷ cuts) q []
        others zero other = refl
        others (suc q) other = t.others q (λ same. other (ap suc same))
