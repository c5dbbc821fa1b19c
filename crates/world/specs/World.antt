-- The world of a server: its rulesets, numbered from 1, the counters that its runs share, and its
-- workers, each idle or with a run.
use Rattle.std.specs.Prelude.{◌≡◌, ℕ, zero, suc, List, [], ◌∷◌, ◌++◌, length, replicate, Option}
use Rattle.std.specs.Prelude.{Some, None, slice_get, slice_set}
use Rattle.attrs.specs.Attributes.{Attributes}
use Rattle.bpf_semantics.specs.Memory.{cell_count}
use Rattle.bpf_semantics.specs.State.{State}
use Rattle.bpf_semantics.specs.Program.{ShapedProgram}
use Rattle.ruleset.specs.Rules.{Rules, AppRule, ListsApp}

-- a run has the number of its ruleset, which was the newest when the run started, its program and
-- its state; a run that has ended has its choice and the number of its instructions
pub data Worker : Type 0 where
  Idle : Worker
  Running : (number : ℕ) → (program : ShapedProgram) → State → Worker
  Ended : (number : ℕ) → (program : ShapedProgram) → Attributes → (choice instructions : ℕ)
      → Worker

-- all workers share one row of 8192 counters, each with its value
pub record WorldState : Type 0 where
  pub rulesets : List Rules
  pub cells : List ℕ
  pub workers : List Worker

unfoldable pub zeros : List ℕ
zeros = replicate cell_count 0

-- a world in which a server begins: one ruleset, counters with these values, and all workers idle
abbrev pub opened_world : Rules → (values : List ℕ) → (workers : ℕ) → WorldState
opened_world rules values count = record {
  rulesets = rules ∷ [];
  cells = values;
  workers = replicate count Idle;
}

-- the world of a server that keeps no counters from an earlier one: all are 0
abbrev pub opening_world : Rules → ℕ → WorldState
opening_world rules = opened_world rules zeros

-- ---- rulesets

-- the ruleset with this number; they are numbered from 1
abbrev pub ruleset_at : List Rules → ℕ → Option Rules
ruleset_at rulesets zero = None
ruleset_at rulesets (suc k) = slice_get rulesets k

abbrev pub newest : List Rules → ℕ
newest rulesets = length rulesets

-- one ruleset is appended, which is the newest, and nothing else changes
abbrev pub with_ruleset : WorldState → Rules → WorldState
with_ruleset w rules = record w { rulesets = w.rulesets ++ rules ∷ [] }

-- the app with an appid in the ruleset of a number
pub record HasApp (rulesets : List Rules) (number : ℕ) (appid : List ℕ)
    (app : AppRule) : Type 0 where
  pub rules : Rules
  pub ruleset_is : ruleset_at rulesets number ≡ Some rules
  pub known : ListsApp rules appid app

-- the program of that app
pub record HasProgram (rulesets : List Rules) (number : ℕ) (appid : List ℕ)
    (program : ShapedProgram) : Type 0 where
  pub app : AppRule
  pub has : HasApp rulesets number appid app
  pub program_is : app.program ≡ program

-- ---- workers, numbered from 0

abbrev pub IsWorker : WorldState → ℕ → Worker → Type 0
IsWorker w k worker = slice_get w.workers k ≡ Some worker

-- one worker changes, and nothing else
abbrev pub with_worker : WorldState → ℕ → Worker → WorldState
with_worker w k worker = record w { workers = slice_set w.workers k worker }

abbrev pub IsIdle : Worker → Type 0
IsIdle Idle = Unit {0}
IsIdle worker = ⊥

abbrev pub IsRunning : Worker → Type 0
IsRunning (Running number program s) = Unit {0}
IsRunning worker = ⊥
