-- What the threads of a server return once they have ended. Their passes, which are ghost tokens,
-- have what was done by them, and their watchers have what they know.
use Rattle.std.specs.Prelude.{◌≡◌, Bool, ◌≤◌, ◌<◌, ◌^◌, ◌-◌, ℕ, ℤ, List, All, length, map}
use Rattle.std.specs.Prelude.{string_bytes}
use Rattle.std.specs.List.{AllZip}
use Rattle.cells.specs.Directory.{IsDirectory}
use Rattle.cells.specs.Grown.{GrewBy}
use Rattle.cells.specs.declared.event.CellEvent.{CellEvent}
use Rattle.operator.specs.Control.{Controlled, Loading}
use Rattle.operator.specs.Leading.{AnsweredLine, LinesLead}
use Rattle.hot_swap.specs.Published.{KnownPrefix, IsLatest}
use Rattle.ruleset.specs.Rules.{Rules, IsRuleset}
use Rattle.workers.specs.Answers.{WorkerAnswer, AreInTurn, made_in_turn}
use Rattle.workers.specs.declared.accept.OperatorEnd.{OperatorEnd}
use Rattle.workers.specs.declared.returned.Returned.{Returned}

-- each published ruleset is sound, and the last one is of this generation
pub record IsPublished (published : KnownPrefix) (generation : ℕ) : Type 0 where
  pub sound : All IsRuleset published.rulesets
  pub rules : Rules
  pub last : IsLatest published generation rules

module _ {P : Type 0} (withholds : Bool) (belongs : P → Type 0)
    (grew : P → CellEvent → P → Type 0) where
  -- A worker, its pass and its watcher, which gave these answers, one after the other. The pass
  -- belongs to the cells, and grew only by what the answers did.
  pub record WorkerBack (old new : P × KnownPrefix) : Type 0 where
    pub belongs_yet : belongs new.0
    pub answers : List (WorkerAnswer withholds)
    pub in_turn : AreInTurn old.1 answers new.1
    pub grown : GrewBy grew old.0 (made_in_turn answers) new.0

  -- the same for one connection, which has one answer, or none if it couldn't be read
  pub record ConnectionBack (old new : P × KnownPrefix) : Type 0 where
    pub back : WorkerBack old new
    pub once : length back.answers ≤ 1

  -- the same at a moment
  pub record MomentBack (moment : ℤ) (old new : P × KnownPrefix) : Type 0 where
    pub connection : ConnectionBack old new
    pub moments_are : All (λ answer. answer.moment ≡ moment) connection.back.answers

  -- the same for the connections that were taken, with at most one answer each, unless their count
  -- overflows
  pub record ConnectionsBack (taken : ℕ) (old new : P × KnownPrefix) : Type 0 where
    pub back : WorkerBack old new
    pub at_most_one : taken < 2 ^ 64 - 1 → length back.answers ≤ taken

  -- all workers, in their order
  abbrev pub WorkersBack : (old new : List (P × KnownPrefix)) → Type 0
  WorkersBack old new = AllZip WorkerBack old new

module _ {F P : Type 0} (belongs : P → Type 0) (grew : P → CellEvent → P → Type 0)
    (loads : Loading F) where
  -- The operator's thread at its end, with its pass and its control. It answered lines, one after
  -- the other: at most one for each accepted connection, unless their count overflows.
  -- Its pass belongs to the cells, and grew only by what the lines read. Its end says whether a
  -- stop was requested.
  pub record OperatorBack (end : OperatorEnd) (old new : P × Controlled) : Type 0 where
    pub belongs_yet : belongs new.0
    pub lines : List (AnsweredLine F)
    pub reads : List CellEvent
    pub led : LinesLead loads old.1 lines reads new.1
    pub grown : GrewBy grew old.0 reads new.0
    pub at_most_one : end.accepted < 2 ^ 64 - 1 → length lines ≤ end.accepted
    pub stop_is : end.is_requested ≡ new.1.is_stopping

module _ {F P : Type 0} (withholds : Bool) (belongs : P → Type 0)
    (grew : P → CellEvent → P → Type 0) (loads : Loading F) where
  -- All that is returned by a server that began with this pass of its operator, these workers and
  -- this control. The operator's lines, and nothing else, led from that control to the one at its
  -- end. What was published then, its arrays and its halted apps, are also returned.
  pub record ServerBack (pass : P) (staff : List (P × KnownPrefix)) (control : Controlled)
      (back : Returned P) : Type 0 where
    pub last : Controlled
    pub operator : OperatorBack belongs grew loads back.end (pass, control) (back.operator, last)
    pub workers : WorkersBack withholds belongs grew staff back.workers.items
    pub directory : IsDirectory last.arrays
    pub arrays_are : back.directory ≡ last.arrays
    pub halted_are : map string_bytes back.halted.items ≡ last.halted
    pub published_are : back.published ≡ last.publishing.known
    pub published : IsPublished back.published back.generation
