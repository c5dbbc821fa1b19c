-- Ceilings stay backed as numbers of cells with places grow, as cells get fewer places, and as one
-- more is raised.
use Rattle.std.proofs.Common.{◌≡◌, ℕ, zero, suc, ◌+◌, ◌-◌, ◌^◌, ◌<◌, ◌≤◌, min}
use Rattle.std.proofs.Common.{List, [], ◌∷◌, ◌++◌, subst, ◌∙◌, arith}
use Rattle.std.specs.Prelude.{All, slice_index}
use Rattle.std.proofs.lemmas.List.Elements.{All-push, All-weaker}
use Rattle.atomic_table.specs.Seated.{TableId}
use Rattle.cells.specs.declared.array.CellArray.{CellArray}
use Rattle.ceilings.specs.Seats.{SeatView}
use Rattle.ceilings.specs.declared.rule.Raised.{Raised}
use Rattle.ceilings.specs.Rule.{raised_as}
use Rattle.kept_cells.specs.Tickets.{limit_word}
use Rattle.counter_store.specs.Ledger.{IsBacked, IsLedger, AreNotLower, AreNext, KeepsPlaces}
use Rattle.counter_store.specs.Places.{ArePlaces, places_in}

still : (places number old new : ℕ) → (0 < places → old ≤ new) → min places number ≤ old
    → min places number ≤ new
still zero number old new higher was = omega arith
still (suc places) number old new higher was =
    let now = higher (omega arith) in
    omega (arith, was, now)

pub all_higher : (arrays : List CellArray) (old new : List ℕ)
    → KeepsPlaces (places_in arrays) old new
    → (raised : List Raised) → All (IsBacked arrays old) raised → All (IsBacked arrays new) raised
all_higher arrays old new higher =
    All-weaker (IsBacked arrays old) (IsBacked arrays new)
    (λ s backed. record {
      word = backed.word;
      ceiling = λ wide.
          still (places_in arrays s.cell) s.number (slice_index old s.cell)
          (slice_index new s.cell) (higher s.cell wide) (backed.ceiling wide);
      limit = backed.limit;
    })

-- the next numbers by the places of a list are those by the places of the arrays
pub next_of_arrays : (arrays : List CellArray) (places present old new : List ℕ)
    → ArePlaces arrays places → AreNext (slice_index places) present old new
    → AreNext (places_in arrays) present old new
next_of_arrays arrays places present old new are next = record {
  not_lower = λ cell wide some.
      let is = are.each cell wide in
      next.not_lower cell wide (omega (arith, is, some));
  plain = λ cell wide none. next.plain cell wide (are.each cell wide ∙ none);
  narrow = next.narrow;
}

fewer : (p q n v : ℕ) → q ≤ p → min p n ≤ v → min q n ≤ v
fewer p q n v less was = omega (arith, less, was)

pub all_fewer : (old new : List CellArray) (before places numbers : List ℕ)
    → ArePlaces old before → ArePlaces new places → AreNotLower places before
    → (raised : List Raised) → All (IsBacked old numbers) raised → All (IsBacked new numbers) raised
all_fewer old new before places numbers was are less =
    All-weaker (IsBacked old numbers) (IsBacked new numbers)
    (λ s backed. record {
      word = backed.word;
      ceiling = λ wide.
          fewer (places_in old s.cell) (places_in new s.cell) s.number (slice_index numbers s.cell)
          (cell_fewer s.cell wide) (backed.ceiling wide);
      limit = λ cell is.
          let there = backed.word in
          let now = cell_fewer cell (omega (arith, is, there)) in
          let was = backed.limit cell is in
          omega (arith, now, was);
    })
  where
    cell_fewer : (cell : ℕ) → cell < 4096 → places_in new cell ≤ places_in old cell
    cell_fewer cell wide =
        let a = was.each cell wide in
        let b = are.each cell wide in
        let c = less cell in
        omega (arith, a, b, c)

no_limit : (cell other : ℕ) → cell < 4096 → cell ≡ 4096 + other → ⊥
no_limit cell other wide is = omega (arith, wide, is)

pub one_more : (arrays : List CellArray) (places numbers : List ℕ) (raised : List Raised)
    (cell number : ℕ) → cell < 4096 → ArePlaces arrays places
    → min (slice_index places cell) number ≤ slice_index numbers cell
    → All (IsBacked arrays numbers) raised
    → All (IsBacked arrays numbers) (raised ++ raised_as cell number ∷ [])
one_more arrays places numbers raised cell number wide are backed all =
    All-push (IsBacked arrays numbers) raised (raised_as cell number) all
    (record {
      word = omega (arith, wide);
      ceiling = λ _.
          subst (λ (p : ℕ). min p number ≤ slice_index numbers cell) (are.each cell wide) backed;
      limit = λ other is. absurd (no_limit cell other wide is);
    })

-- a limit that isn't below the places of its cell is set
pub one_limit : (arrays : List CellArray) (places numbers : List ℕ) (raised : List Raised)
    (cell limit : ℕ) → cell < 4096 → ArePlaces arrays places → slice_index places cell ≤ limit
    → limit ≤ 2 ^ 64 - 1 → All (IsBacked arrays numbers) raised
    → All (IsBacked arrays numbers)
    (raised ++ raised_as (limit_word cell) (2 ^ 64 - 1 - limit) ∷ [])
one_limit arrays places numbers raised cell limit wide are within small all =
    All-push (IsBacked arrays numbers) raised (raised_as (limit_word cell) (2 ^ 64 - 1 - limit)) all
    (record {
      word = omega (arith, wide);
      ceiling = λ low. absurd (no_ceiling cell low);
      limit = λ other is.
          subst (λ (c : ℕ). places_in arrays c + (2 ^ 64 - 1 - limit) ≤ 2 ^ 64 - 1)
          (same_cell cell other is)
          (room (slice_index places cell) (places_in arrays cell) within small
          (are.each cell wide));
    })
  where
    no_ceiling : (cell : ℕ) → 4096 + cell < 4096 → ⊥
    no_ceiling cell low = omega (arith, low)

    same_cell : (cell other : ℕ) → 4096 + cell ≡ 4096 + other → cell ≡ other
    same_cell cell other is = omega (arith, is)

    room : (p places : ℕ) → p ≤ limit → limit ≤ 2 ^ 64 - 1 → p ≡ places
        → places + (2 ^ 64 - 1 - limit) ≤ 2 ^ 64 - 1
    room p places less small is = omega (arith, less, small, is)

-- the ledger of a directory that extends the present one
pub adopted : (ceilings : TableId) (writer : SeatView) (old new : List CellArray)
    (before places numbers next : List ℕ) → IsLedger ceilings writer old before numbers next
    → ArePlaces new places → AreNotLower places before
    → IsLedger ceilings writer new places numbers next
adopted ceilings writer old new before places numbers next was are less = record {
  own = was.own;
  places_are = are;
  cells = was.cells;
  next_cells = was.next_cells;
  backed =
      all_fewer old new before places numbers was.places_are are less writer.raised was.backed;
}
