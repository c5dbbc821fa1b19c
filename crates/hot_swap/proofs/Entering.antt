-- The step that appends a ruleset keeps the rule of the book.
use Rattle.std.proofs.Common.{◌≡◌, ℕ, ◌+◌, ◌<◌, ◌==◌, Bool, true, false, List, [], ◌∷◌, ◌++◌}
use Rattle.std.proofs.Common.{length, refl, ap, sym, subst, arith, inl, length-append, None}
use Rattle.std.proofs.lemmas.List.{append-nil}
use Rattle.std.proofs.lemmas.Bool.Decides.{nat_tests}
use mathlib.Core.List.{IsPrefix}
use prog.Atomic.{either}
use Rattle.logbook.specs.Pages.{Book, Cell, View, cell, keeps, no_nib, step, Moves, Goes}
use Rattle.hot_swap.proofs.Prefixes.{prefix_whole}
use Rattle.hot_swap.specs.Book.{IsCounted, EntersOrFinds, id_of}
use Rattle.ruleset.specs.Rules.{Rules}

-- a publisher has one book
pub same_book : (a b : Book) → id_of a ≡ id_of b → a ≡ b
same_book a b e i =
    record { number = (e i).number; log_name = (e i).log_name; cells_name = (e i).cells_name }

-- only the list is visible, and nothing is promised of how it changes
abbrev pub nothing : List Rules → List Rules
nothing log = []

abbrev pub freely : List Rules → List Rules → ℕ → Type 0
freely xs ys n = Unit {0}

module _ (v : List Rules) (e : Rules) (old : ℕ) where
  abbrev pub sees : View Rules ℕ
  sees = (v, (no_nib, None))

  -- the word after the exchange
  abbrev pub exchanged : ℕ → ℕ
  exchanged n = either (n == old) (old + 1) n

  abbrev pub finds : ℕ → View Rules ℕ → Type 0
  finds = EntersOrFinds (step 0 old (old + 1) e) sees

  -- the list and the word change together
  abbrev pub GoesFrom : List Cell → List Rules → Type 0
  GoesFrom = Goes IsCounted nothing freely 0 sees exchanged finds

  pub enters_goes : (log : List Rules) → length v ≡ old → IsPrefix v log
      → (b : Bool) → (length log == old) ≡ b
      → GoesFrom ((length log, true) ∷ (0, true) ∷ []) log
  enters_goes log len pre true is =
      let here : length log ≡ old = grind (arith, nat_tests) in
      let same : v ≡ log = prefix_whole v log pre (omega arith) in
      let n : exchanged (length log) ≡ length (log ++ e ∷ []) =
      rw is (omega (arith, length-append log (e ∷ []))) in (
        keeps,
        e ∷ [],
        None,
        tt,
        ap (λ (k : ℕ). (k, true) ∷ (0, true) ∷ []) n,
        inl (refl, refl),
        rw is (ap (λ w. w ++ e ∷ []) (sym same)),
      )
  enters_goes log len pre false is =
      let all : log ++ [] ≡ log = append-nil log in
      let n : exchanged (length log) ≡ length (log ++ []) = rw is (ap length (sym all)) in (
        keeps,
        [],
        None,
        tt,
        ap (λ (k : ℕ). (k, true) ∷ (0, true) ∷ []) n,
        inl (refl, refl),
        rw is (ap length all),
      )

  -- for any book, the exchange appends the ruleset to all that was known, or finds that the list is
  -- longer than that
  pub enters_moves : length v ≡ old → Moves IsCounted nothing freely 0 sees exchanged finds
  enters_moves len cs log kept pre away =
      let P : List Cell → Type 0 =
      λ c. (0 < length c) × ((cell c 0).1 ≡ true) × GoesFrom c log in
      subst P (sym kept) (omega arith, refl, enters_goes log len pre (length log == old) refl)
