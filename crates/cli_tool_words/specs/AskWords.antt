-- The arguments of `ask`.
use Rattle.std.specs.Prelude.{◌≡◌, List, [], ◌∷◌, codes, IfNone, IfSome}
use Rattle.std.specs.Prelude.{Option, Some, None, option_and_then, option_map}
use Rattle.clap.specs.Words.{Row, Text, first_of}
use Rattle.cli_base.specs.Seconds.{second_by}
use Rattle.cli_base.specs.Values.{HasFlag, HasShort, HasText, LacksShort, texts_of}
use Rattle.cell_assignments.specs.Assignments.{Assignment, assigned}
use Rattle.cli_tool_words.specs.declared.args.AskArgs.{AskArgs}

-- ---- the counters

abbrev pub joined : {A : Type 0} → Option A → Option (List A) → Option (List A)
joined first rest = option_and_then (λ c. option_map (λ cs. c ∷ cs) rest) first

-- the cells that all texts give, each NAME[INDEX]=VALUE
abbrev pub cells_in : List Text → Option (List Assignment)
cells_in [] = Some []
cells_in (text ∷ more) = joined (assigned text) (cells_in more)

abbrev pub HasCells : List Row → List Assignment → Type 0
HasCells rows cells = cells_in (texts_of (codes "cells") rows) ≡ Some cells

abbrev pub LacksCells : List Row → Type 0
LacksCells rows = cells_in (texts_of (codes "cells") rows) ≡ None

-- ---- all words

-- the reply of a manifest's server to a request, at a given moment or the present one, with
-- counters from `--cells` or from a server
pub record HasAsk (rows : List Row) (args : AskArgs) : Type 0 where
  pub manifest : HasText (codes "MANIFEST") rows args.manifest.now
  pub request : HasText (codes "REQUEST") rows args.request.now
  pub at : second_by (first_of (codes "at") rows) ≡ Some args.at
  pub cells : HasCells rows args.cells.items
  pub port : IfSome args.operator (HasShort (codes "operator") rows)
  pub no_port : IfNone args.operator (LacksShort (codes "operator") rows)
  pub why : HasFlag (codes "why") rows args.why

abbrev pub LacksAsk : List Row → Type 0
LacksAsk rows = (args : AskArgs) → ¬ HasAsk rows args
