-- Ghost tokens (passes) that grow by loads of cells, one after another.
use Rattle.std.proofs.Common.{Bool, true, ◌≡◌, ℕ, ◌+◌, ◌<◌, ◌≤◌}
use Rattle.std.proofs.Common.{List, [], ◌∷◌, ◌++◌, get_or, length, take, All, refl}
use Rattle.std.proofs.Common.{ap, sym, subst, ◌∙◌, arith, append_assoc, append-nil}
use Rattle.std.specs.Prelude.{if◌then◌else◌, slice_get, Some}
use Rattle.std.proofs.lemmas.List.{take_more}
use Rattle.std.proofs.lemmas.List.Elements.{All-append, All-nil, All-push}
use Rattle.std.proofs.lemmas.List.Sums.{sum_by_more_le}
use Rattle.std.proofs.lemmas.Option.{slice_get_read}
use Rattle.cells.specs.Arrays.{first_cell}
use Rattle.cells.specs.Directory.{same_width, cells_of, taken, IsDirectory}
use Rattle.cells.specs.Events.{event}
use Rattle.cells.specs.Grown.{Grows, GrowsByAppend, GrowsBySnoc}
use Rattle.cells.specs.declared.array.CellArray.{CellArray}
use Rattle.cells.specs.declared.array.CellWidth.{CellWidth}
use Rattle.cells.specs.declared.array.CellWidth.TheVariants.{Bits32, Bits64}
use Rattle.cells.specs.declared.event.CellEvent.{CellEvent}
use Rattle.cells.specs.declared.event.CellOp.TheVariants.{Load}
use Rattle.operator.specs.Counters.{ReadsCells, ReadsArrays, no_cell, one_cell}
use Rattle.operator.specs.Counters.{no_array, one_array, IsLoad, Describes}
use Rattle.operator.specs.Texts.{cell_text}

-- ---- the cells of an array are within all cells

same : (w : CellWidth) → same_width w w ≡ true
same Bits32 = refl
same Bits64 = refl

ends_within : (w : CellWidth) → first_cell w + 4096 ≤ 8192
ends_within Bits32 = omega arith
ends_within Bits64 = omega arith

pub within_cells : (arrays : List CellArray) (i : ℕ) (array : CellArray) → IsDirectory arrays
    → i < length arrays → array ≡ get_or arrays i array → array.base + array.length ≤ 8192
within_cells arrays i array known below found =
    let w = array.width in
    let at : slice_get arrays i ≡ Some array =
    slice_get_read arrays (length arrays) i array refl below found in
    let own : cells_of w (get_or arrays i array) ≡ array.length =
    ap (λ (a : CellArray). cells_of w a) (sym found)
    ∙ ap (λ (b : Bool). if b then array.length else 0) (same w) in
    let before : taken w (take i arrays) + array.length ≤ taken w arrays =
    subst (λ (n : ℕ). taken w (take i arrays) + n ≤ taken w arrays) own
    (sum_by_more_le (cells_of w) arrays i array below) in
    omega (arith, known.places i array at, before, known.cells_fit w, ends_within w)

-- ---- reading consists only of loads

pub cells_are_loaded : {array : CellArray} {count : ℕ} {events : List CellEvent} {lines : List ℕ}
    → ReadsCells array count events lines → All IsLoad events
cells_are_loaded no_cell = All-nil IsLoad
cells_are_loaded (one_cell {index} {events} {lines} value before) =
    All-push IsLoad events _ (cells_are_loaded before) refl

pub arrays_are_loaded : {arrays : List CellArray} {events : List CellEvent} {lines : List ℕ}
    → ReadsArrays arrays events lines → All IsLoad events
arrays_are_loaded no_array = All-nil IsLoad
arrays_are_loaded (one_array {arrays} {before} {events} first next) =
    All-append IsLoad before events (arrays_are_loaded first) (cells_are_loaded next)

module _ {P : Type 0} (grew : P → CellEvent → P → Type 0) where
  -- nothing happened
  pub grows_none : (p : P) (Of : List CellEvent → Type 0) → Of [] → Grows grew p p Of
  grows_none p Of h = record { events = []; grown = refl; of = h }

  -- ---- cell after cell

  pub no_cells : (p : P) (array : CellArray) (text : List ℕ)
      → Grows grew p p (Describes (ReadsCells array 0) text text)
  no_cells p array text = grows_none p _
      (record { lines = []; written = sym (append-nil text); reads = no_cell })

  pub next_cell : (p m q : P) (array : CellArray) (index value : ℕ) (first old new : List ℕ)
      → GrowsBySnoc grew
      → Grows grew p m (Describes (ReadsCells array index) first old)
      → grew m (event (array.base + index) Load value) q
      → new ≡ old ++ cell_text array index value
      → Grows grew p q (Describes (ReadsCells array (index + 1)) first new)
  next_cell p m q array index value first old new snoc before step written =
      let e = event (array.base + index) Load value in
      let line = cell_text array index value in
      record {
        events = before.events ++ e ∷ [];
        grown = snoc p before.events m e q before.grown step;
        of = record {
          lines = before.of.lines ++ line;
          written = written ∙ ap (λ (l : List ℕ). l ++ line) before.of.written
              ∙ append_assoc first before.of.lines line;
          reads = one_cell value before.of.reads;
        };
      }

  -- one more cell was read, and then an allocation failed
  pub loaded_cell : (p m q : P) (array : CellArray) (index value : ℕ) (first old : List ℕ)
      → GrowsBySnoc grew
      → Grows grew p m (Describes (ReadsCells array index) first old)
      → grew m (event (array.base + index) Load value) q → Grows grew p q (All IsLoad)
  loaded_cell p m q array index value first old snoc before step =
      let e = event (array.base + index) Load value in
      record {
        events = before.events ++ e ∷ [];
        grown = snoc p before.events m e q before.grown step;
        of = All-push IsLoad before.events e (cells_are_loaded before.of.reads) refl;
      }

  -- ---- array after array

  pub next_array : (p m q : P) (arrays : List CellArray) (i : ℕ) (array : CellArray)
      (old new : List ℕ)
      → GrowsByAppend grew → i < length arrays → array ≡ get_or arrays i array
      → Grows grew p m (λ events. ReadsArrays (take i arrays) events old)
      → Grows grew m q (Describes (ReadsCells array array.length) old new)
      → Grows grew p q (λ events. ReadsArrays (take (i + 1) arrays) events new)
  next_array p m q arrays i array old new append below found a b =
      let longer : take (i + 1) arrays ≡ take i arrays ++ array ∷ [] =
      take_more arrays i array below
      ∙ ap (λ (x : CellArray). take i arrays ++ x ∷ []) (sym found) in
      record {
        events = a.events ++ b.events;
        grown = append p a.events m b.events q a.grown b.grown;
        of = rw (longer, b.of.written) (one_array a.of b.of.reads);
      }

  pub loaded_array : (p m q : P) (arrays : List CellArray) (old : List ℕ)
      → GrowsByAppend grew
      → Grows grew p m (λ events. ReadsArrays arrays events old)
      → Grows grew m q (All IsLoad) → Grows grew p q (All IsLoad)
  loaded_array p m q arrays old append a b = record {
    events = a.events ++ b.events;
    grown = append p a.events m b.events q a.grown b.grown;
    of = All-append IsLoad a.events b.events (arrays_are_loaded a.of) b.of;
  }
