-- The report on a condition: each evaluated test with its truth, from left to right, until the
-- condition is decided.
use Rattle.std.specs.Prelude.{ℕ, List, [], ◌∷◌, ◌++◌, codes, Option, Some}
use Rattle.std.specs.Prelude.{Bool, false, not, if◌then◌else◌}
use Rattle.attrs.specs.Attributes.{Attributes}
use Rattle.cells.specs.Arrays.{AppShape}
use Rattle.rule_lang.specs.Meaning.{cell_used}
use Rattle.rule_lang.specs.Trees.{Tree, Leaf, Negated, Both, Either, trees_from}
use Rattle.rule_lang.specs.declared.condition.Step.{Step}
use Rattle.rule_lang.specs.declared.test.Test.{Test}
use Rattle.why_choice.specs.Ending.{holds_on, left_at, value_at}
use Rattle.why_choice.specs.Texts.{tested_text, negated_text}

-- the report's text, whether the condition holds, and the counters' values after it
pub record Reading : Type 0 where
  pub text : List ℕ
  pub holds : Bool
  pub counters : List ℕ

-- a reading followed by another
abbrev pub read_after : Reading → Reading → Reading
read_after first second =
    record second { text = first.text ++ codes "; " ++ second.text }

-- the reading of `not`
abbrev pub read_negated : Reading → Reading
read_negated r = record r { text = negated_text r.text; holds = not r.holds }

module _ (a : Attributes) (s : AppShape) where
  -- the reading of a test
  abbrev pub read_test : (counters : List ℕ) → Test → Reading
  read_test counters t = record {
    text = tested_text a s (value_at counters (cell_used s t)) (holds_on a s counters t) t;
    holds = holds_on a s counters t;
    counters = left_at counters (cell_used s t);
  }

  -- the second part of `and` is evaluated if the first holds, and that of `or` if it doesn't
  abbrev pub read_tree : (counters : List ℕ) → Tree → Reading
  read_tree counters (Leaf line t) = read_test counters t
  read_tree counters (Negated c) = read_negated (read_tree counters c)
  read_tree counters (Both b c) =
      let r = read_tree counters b in
      if r.holds then read_after r (read_tree r.counters c) else r
  read_tree counters (Either b c) =
      let r = read_tree counters b in
      if r.holds then r else read_after r (read_tree r.counters c)

  -- the steps of a condition form one tree
  abbrev pub read_one : (counters : List ℕ) → Option (List Tree) → Reading
  read_one counters (Some (c ∷ [])) = read_tree counters c
  read_one counters trees = record { text = []; holds = false; counters = counters }

  -- the reading of a condition's steps
  abbrev pub read_steps : (counters : List ℕ) → List Step → Reading
  read_steps counters steps = read_one counters (trees_from [] steps)
