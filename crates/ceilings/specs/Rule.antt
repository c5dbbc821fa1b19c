-- The rule of the table of ceilings: each ceiling is at most the greatest number to which it was
-- raised, and what the seats, which are ghost tokens, know are prefixes of one list of what was
-- raised.
use Rattle.std.specs.Prelude.{◌≡◌, ℕ, ◌<◌, ◌≤◌, max, ◌==◌, true, false, if◌then◌else◌}
use Rattle.std.specs.Prelude.{List, [], ◌∷◌, ◌++◌, length, slice_index}
use mathlib.Core.List.{IsPrefix}
use mathlib.Core.Option.{some}
use lib.ListN.{get_elem?}
use Rattle.atomic_table.specs.Table.{State, Me}
use Rattle.ceilings.specs.declared.rule.Known.{Known}
use Rattle.ceilings.specs.declared.rule.Raised.{Raised}

abbrev pub raised_as : ℕ → ℕ → Raised
raised_as cell number = record { cell = cell; number = number }

abbrev pub writer_of : List Raised → Known
writer_of raised = record { is_writer = true; raised = raised; joined = [] }

abbrev pub reader_of : List Raised → Known
reader_of raised = record { is_writer = false; raised = raised; joined = [] }

abbrev pub joined_to : Known → Known → Known
joined_to writer reader =
    record { is_writer = writer.is_writer; raised = writer.raised; joined = reader.raised }

-- the greatest number to which a counter's ceiling was raised, 0 if it never was
abbrev pub raised_in : ℕ → List Raised → ℕ
raised_in cell [] = 0
raised_in cell (x ∷ log) =
    if x.cell == cell then max x.number (raised_in cell log) else raised_in cell log

-- it doesn't fall as ceilings are raised
abbrev pub CeilingsMonotone : Type 0
CeilingsMonotone = (cell : ℕ) (old new : List Raised) → IsPrefix old new
    → raised_in cell old ≤ raised_in cell new

-- a look finds at most what was raised by then
abbrev pub Looks : {S : Type 0} → ℕ → Me S Known → ℕ → Me S Known → Type 0
Looks cell old found new =
    IsPrefix old.0.raised new.0.raised × (found ≤ raised_in cell new.0.raised)
    × (new.0.is_writer ≡ old.0.is_writer) × (new.1 ≡ old.1)

-- the writer has raised one more ceiling
abbrev pub Raises : {S : Type 0} → ℕ → Me S Known → ℕ → Me S Known → Type 0
Raises cell old number new =
    (new.0.raised ≡ old.0.raised ++ raised_as cell number ∷ [])
    × (new.0.is_writer ≡ old.0.is_writer) × (new.1 ≡ old.1)

-- what was joined to the writer's seat is a prefix of what it knows
abbrev pub Compares : {S : Type 0} → Me S Known → Me S Known → Type 0
Compares old new = IsPrefix old.0.joined old.0.raised × (new ≡ old)

-- what a seat knows are prefixes of the list
pub record KnowsSome (log : List Raised) (v : Known) : Type 0 where
  pub raised : IsPrefix v.raised log
  pub joined : IsPrefix v.joined log

-- `n` is the number of words
pub record HasLog {S : Type 0} (n : ℕ) (s : State S Known) : Type 0 where
  pub log : List Raised
  pub words : length s.words ≡ n
  pub below : (c : ℕ) → c < n → slice_index s.words c ≤ raised_in c log
  pub seen : (id : ℕ) (v : Known) → get_elem? s.views id ≡ some v → KnowsSome log v
  pub whole : (id : ℕ) (v : Known) → get_elem? s.views id ≡ some v → v.is_writer ≡ true
      → v.raised ≡ log
  pub one : (id other : ℕ) (v w : Known) → get_elem? s.views id ≡ some v
      → get_elem? s.views other ≡ some w → v.is_writer ≡ true → w.is_writer ≡ true → id ≡ other
