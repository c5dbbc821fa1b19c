-- The parts of which the code makes a condition's report. The second part of `and` and `or` is
-- evaluated before it is known whether it counts. If it doesn't, its takes are undone. No public
-- clause uses this: the promise is in Reading.antt.
use Rattle.std.specs.Prelude.{◌≡◌, ℕ, List, [], ◌∷◌, ◌++◌, codes, slice_index, slice_set}
use Rattle.std.specs.Prelude.{Option, Some, None, Bool, not}
use Rattle.attrs.specs.Attributes.{Attributes}
use Rattle.cells.specs.Arrays.{AppShape}
use Rattle.rule_lang.specs.Meaning.{cell_used}
use Rattle.rule_lang.specs.declared.test.Test.{Test}
use Rattle.why_choice.specs.Ending.{holds_on, value_at}
use Rattle.why_choice.specs.Reading.{Reading}
use Rattle.why_choice.specs.Texts.{tested_text, negated_text}

-- a cell that was taken from, and its previous value
pub record CellTake : Type 0 where
  pub cell : ℕ
  pub value : ℕ

-- the take from a cell, if there is one
abbrev pub taken_at : (counters : List ℕ) → Option ℕ → List CellTake
taken_at counters (Some cell) =
    record { cell = cell; value = slice_index counters cell } ∷ []
taken_at counters None = []

-- a part: its report, whether it holds, and its takes in order
pub record PartReport : Type 0 where
  pub text : List ℕ
  pub holds : Bool
  pub taken : List CellTake

-- the counters before these takes; the last is undone first
abbrev pub given_back : List CellTake → (counters : List ℕ) → List ℕ
given_back [] counters = counters
given_back (t ∷ ts) counters = slice_set (given_back ts counters) t.cell t.value

-- a part under `not`
abbrev pub negated : PartReport → PartReport
negated p = record p { text = negated_text p.text; holds = not p.holds }

-- a part followed by another
abbrev pub followed : PartReport → PartReport → PartReport
followed first second = record {
  text = first.text ++ codes "; " ++ second.text;
  holds = second.holds;
  taken = first.taken ++ second.taken;
}

-- the part agrees with a reading: it was evaluated on counters with these values, left the
-- reading's values, and its takes can be undone
pub record IsPartOf (r : Reading) (old : List ℕ) (p : PartReport) (new : List ℕ) : Type 0 where
  pub text : p.text ≡ r.text
  pub holds : p.holds ≡ r.holds
  pub left : new ≡ r.counters
  pub back : given_back p.taken new ≡ old

module _ (a : Attributes) (s : AppShape) where
  -- the part of a test
  abbrev pub tested : (counters : List ℕ) → Test → PartReport
  tested counters t = record {
    text = tested_text a s (value_at counters (cell_used s t)) (holds_on a s counters t) t;
    holds = holds_on a s counters t;
    taken = taken_at counters (cell_used s t);
  }
