-- What a server is made of: the load of its start; and the users of its cells, its operator and its
-- workers, each with a pass of its own, which is a ghost token.
use Rattle.std.specs.Prelude.{◌≡◌, ℕ, ◌+◌, List, All, length}
use Rattle.atomic_table.specs.Seated.{TableId}
use Rattle.shared_cells.specs.Passes.{CellsView, PassView, IsNewPass}
use Rattle.hot_swap.specs.Published.{KnownPrefix}
use Rattle.operator.specs.Control.{LastLoad}
use Rattle.ruleset.specs.declared.loaded.LoadedRuleset.{LoadedRuleset}

-- a worker before it serves: its pass to the cells of this table has made no event, and its watcher
-- knows what is installed
pub record IsNewWorker (table : TableId) (known : KnownPrefix) (worker : PassView × KnownPrefix)
    : Type 0 where
  pub pass : IsNewPass table worker.0
  pub watches : worker.1 ≡ known

-- the load of a server's start, as its control has it: this ruleset and digest, from this path, at
-- any time
pub record IsLoadAtStart (loaded : LoadedRuleset) (path : List ℕ) (last : LastLoad) : Type 0 where
  pub rules_are : last.rules ≡ loaded.rules
  pub digest_is : last.digest ≡ loaded.digest
  pub path_is : last.path ≡ path

-- all passes to the cells are those of the operator and of the workers, and none has made an event
pub record IsStaff (cells : CellsView) (pass : PassView) (known : KnownPrefix)
    (workers : List (PassView × KnownPrefix)) : Type 0 where
  pub all : cells.passes ≡ length workers + 1
  pub own : IsNewPass cells.table pass
  pub each : All (IsNewWorker cells.table known) workers
