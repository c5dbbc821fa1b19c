-- The course of a simulation: the runs of the clients, in order, on the same counters.
use Rattle.std.specs.Prelude.{ℕ, ◌+◌, List, [], ◌∷◌, ◌++◌}
use Rattle.attrs.specs.Attributes.{Attributes}
use Rattle.cells.specs.Events.{AreZeros, IsEvent}
use Rattle.cells.specs.Grown.{GrewBy}
use Rattle.cells.specs.declared.event.CellEvent.{CellEvent}
use Rattle.bpf_semantics.specs.Program.{ShapedProgram}
use Rattle.bpf_semantics.specs.Run.{Ends}
use Rattle.bpf_semantics.specs.State.{opening}
use Rattle.ruleset.specs.Rules.{AppRule}
use Rattle.simulate.specs.Clients.{clients, requesting}
use Rattle.simulate.specs.declared.client.Client.{Client}

-- how many buckets there are
abbrev pub bucket_count : ℕ
bucket_count = 10000

-- a run by the definition, on counters with these values: each event's reply is the counter's
-- value; the run leaves the counters' new values, and ends with the choice
pub record Chooses (program : ShapedProgram) (a : Attributes) (old : List ℕ) (choice : ℕ)
    (new : List ℕ) : Type 0 where
  pub events : List CellEvent
  pub count : ℕ
  pub legal : GrewBy IsEvent old events new
  pub ends : Ends program (opening a) events choice count

-- the clients below a number, in order: their choices, and the values that they leave
pub data InTurn (program : ShapedProgram) (client : ℕ → Attributes) (old : List ℕ)
    : ℕ → List ℕ → List ℕ → Type 0 where
  none : InTurn program client old 0 [] old
  next : (n : ℕ) (choices between : List ℕ) (choice : ℕ) (new : List ℕ)
      → InTurn program client old n choices between
      → Chooses program (client n) between choice new
      → InTurn program client old (n + 1) (choices ++ choice ∷ []) new

-- the choices of the clients of all buckets for an app
abbrev pub ChoosesForApp : Client → AppRule → (old choices new : List ℕ) → Type 0
ChoosesForApp client app old choices new =
    InTurn app.program (clients (requesting client app.appid)) old bucket_count choices new

-- the apps, in order: the clients' choices for each, and the values that they leave
pub data AppByApp (client : Client) (old : List ℕ)
    : List AppRule → List (List ℕ) → List ℕ → Type 0 where
  none : AppByApp client old [] [] old
  next : (apps : List AppRule) (chosen : List (List ℕ)) (between : List ℕ) (app : AppRule)
      (choices new : List ℕ) → AppByApp client old apps chosen between
      → ChoosesForApp client app between choices new
      → AppByApp client old (apps ++ app ∷ []) (chosen ++ choices ∷ []) new

-- a simulation: before the first app all counters are 0
pub record IsSimulated (client : Client) (apps : List AppRule) (chosen : List (List ℕ))
    : Type 0 where
  pub zeros : List ℕ
  pub opens : AreZeros 8192 zeros
  pub left : List ℕ
  pub course : AppByApp client zeros apps chosen left
