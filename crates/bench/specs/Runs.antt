-- Runs of one program, one after the other, for ten apps in turn.
use Rattle.std.specs.Prelude.{◌≡◌, ℕ, ◌+◌, ◌*◌, ◌%◌, List, [], length, Some, None, slice_get}
use Rattle.attrs.specs.Attributes.{Attributes, plain}
use Rattle.attrs.specs.Hash.{fnv1a, with_byte}
use Rattle.cells.specs.declared.event.CellEvent.{CellEvent}
use Rattle.cells.specs.Events.{AreZeros, IsEvent}
use Rattle.cells.specs.Grown.{GrewBy}
use Rattle.bpf_semantics.specs.Program.{ShapedProgram}
use Rattle.bpf_semantics.specs.State.{opening}
use Rattle.bpf_semantics.specs.Run.{Ends}
use Rattle.bench.specs.declared.runs.RunTotals.{RunTotals}

abbrev pub bucket_of : ℕ → ℕ
bucket_of k = 1000 * k + 500

-- app k is in its bucket, and has no other attributes
abbrev pub IsBenchApp : ℕ → Attributes → Type 0
IsBenchApp k a = a ≡ plain [] None (bucket_of k)

-- the ten apps, in order
pub record AreApps (apps : List Attributes) : Type 0 where
  pub ten : length apps ≡ 10
  pub each : (k : ℕ) (a : Attributes) → slice_get apps k ≡ Some a → IsBenchApp k a

abbrev pub no_runs : RunTotals
no_runs = record { instructions = 0; choices = fnv1a [] }

abbrev pub with_run : RunTotals → ℕ → ℕ → RunTotals
with_run t choice count =
    record { instructions = t.instructions + count; choices = with_byte t.choices choice }

-- one run for an app, on cells that had some values before it and others after it
pub record RunsOnce (p : ShapedProgram) (a : Attributes) (before after : List ℕ)
    (choice count : ℕ) : Type 0 where
  pub events : List CellEvent
  pub grew : GrewBy IsEvent before events after
  pub ends : Ends p (opening a) events choice count

-- the tally of the first n runs, one after the other on the same cells, with the cells' values
-- before and after them. Run n is that of app n modulo ten
pub data RunsInTurn (p : ShapedProgram) (apps : List Attributes) (opened : List ℕ)
    : ℕ → List ℕ → RunTotals → Type 0 where
  none : RunsInTurn p apps opened 0 opened no_runs
  more : {n choice count : ℕ} {values after : List ℕ} {t : RunTotals} {a : Attributes}
      → RunsInTurn p apps opened n values t → slice_get apps (n % 10) ≡ Some a
      → RunsOnce p a values after choice count
      → RunsInTurn p apps opened (n + 1) after (with_run t choice count)

-- the totals of n runs, on cells that open at 0
pub record AreRuns (p : ShapedProgram) (apps : List Attributes) (n : ℕ) (t : RunTotals)
    : Type 0 where
  pub opened : List ℕ
  pub zero : AreZeros 8192 opened
  pub values : List ℕ
  pub runs : RunsInTurn p apps opened n values t
