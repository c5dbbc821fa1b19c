-- The result of a rule's behaviour on counters with given values, each of which replies by its
-- value.
use Rattle.std.specs.Prelude.{ℕ, List, slice_index, slice_set, Bool, All, Option, Some, None}
use Rattle.attrs.specs.Attributes.{Attributes}
use Rattle.cells.specs.Arrays.{AppShape}
use Rattle.cells.specs.Events.{after, limit, reply_of, CanReply, IsEvent}
use Rattle.cells.specs.Grown.{GrewBy}
use Rattle.cells.specs.declared.event.CellOp.{CellOp}
use Rattle.cells.specs.declared.event.CellOp.TheVariants.{Add}
use Rattle.cells.specs.declared.event.CellEvent.{CellEvent}
use Rattle.rule_lang.specs.Meaning.{Behaviour, Chooses, Operates, HasTrace, behaviour}
use Rattle.rule_lang.specs.Meaning.{cell_used, test_holds}
use Rattle.rule_lang.specs.declared.rule.Statement.{Statement}
use Rattle.rule_lang.specs.declared.test.Test.{Test}

-- the choice, and the counters' values after it
pub record Ending : Type 0 where
  pub choice : ℕ
  pub counters : List ℕ

-- the ending with these two
abbrev pub ending : (choice : ℕ) → (counters : List ℕ) → Ending
ending choice counters = record { choice = choice; counters = counters }

-- the counters after an operation on one cell
abbrev pub counters_after : (counters : List ℕ) → (cell : ℕ) → CellOp → List ℕ
counters_after counters cell op =
    slice_set counters cell (after (limit cell) (slice_index counters cell) op)

-- the result of a behaviour on counters with these values
abbrev pub ending_on : (counters : List ℕ) → Behaviour → Ending
ending_on counters (Chooses k) = ending k counters
ending_on counters (Operates cell op next) =
    ending_on (counters_after counters cell op) (next (reply_of (slice_index counters cell) op))

-- the reply to a test: the value of its cell, or 0 if it has none
abbrev pub value_at : (counters : List ℕ) → Option ℕ → ℕ
value_at counters (Some cell) = slice_index counters cell
value_at counters None = 0

-- the counters after adding 1 to the cell
abbrev pub left_at : (counters : List ℕ) → Option ℕ → List ℕ
left_at counters (Some cell) = counters_after counters cell (Add 1)
left_at counters None = counters

-- whether a test holds on counters with these values
abbrev pub holds_on : Attributes → AppShape → (counters : List ℕ) → Test → Bool
holds_on a s counters t = test_holds a s (value_at counters (cell_used s t)) t

-- the result of a rule is what it means: some events are a trace of its meaning, and lead from the
-- old values of the counters to the new ones; their replies fit the counters
pub record IsMeant (a : Attributes) (s : AppShape) (rule : List Statement) (old : List ℕ)
    (choice : ℕ) (new : List ℕ) : Type 0 where
  pub events : List CellEvent
  pub trace : HasTrace (behaviour a s rule) events choice
  pub grown : GrewBy IsEvent old events new
  pub fits : All (λ e. CanReply e.cell e.op e.reply) events
