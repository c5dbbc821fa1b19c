-- The answers of a worker, one after the other.
use Rattle.std.specs.Prelude.{Bool, ℤ, List, [], ◌∷◌, None, flat_map}
use Rattle.answering.specs.Answer.{RepliesTo, Sends}
use Rattle.answering.specs.Reply.{HttpReply}
use Rattle.cells.specs.declared.event.CellEvent.{CellEvent}
use Rattle.hot_swap.specs.Published.{KnownPrefix, Extends}

-- An answer: what the worker's watcher knew then, the moment, what its runs did to the counters,
-- and the reply, sent whole or not. It is the answer to some request under the last ruleset known
-- to the watcher, or a refusal; if replies may be withheld, it may be that as well. Nothing shows
-- which bytes were read, nor which moment it was. A connection that couldn't be read has none.
pub record WorkerAnswer (withholds : Bool) : Type 0 where
  pub known : KnownPrefix
  pub moment : ℤ
  pub events : List CellEvent
  pub reply : HttpReply
  pub replies : Sends withholds (RepliesTo None known moment) events reply

-- One after the other: what the watcher knows never goes back, from `from` by each answer to `to`.
abbrev pub AreInTurn
    : {withholds : Bool} → KnownPrefix → List (WorkerAnswer withholds) → KnownPrefix → Type 0
AreInTurn from [] to = Extends from to
AreInTurn from (answer ∷ later) to =
    Extends from answer.known × AreInTurn answer.known later to

-- what the answers did to the counters
abbrev pub made_in_turn : {withholds : Bool} → List (WorkerAnswer withholds) → List CellEvent
made_in_turn = flat_map (λ answer. answer.events)

-- ---- the laws

-- the list known before answers is a prefix of the list known after them
abbrev pub AnswersGoOnwards : Type 0
AnswersGoOnwards = (withholds : Bool) (from to : KnownPrefix)
    (answers : List (WorkerAnswer withholds)) → AreInTurn from answers to → Extends from to

-- answers stay in turn when the watcher knows more
abbrev pub AnswersStayInTurn : Type 0
AnswersStayInTurn = (withholds : Bool) (from to later : KnownPrefix)
    (answers : List (WorkerAnswer withholds)) → AreInTurn from answers to
    → Extends to later → AreInTurn from answers later
