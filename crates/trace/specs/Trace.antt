-- A run of a program, with the last jump that it takes.
use Rattle.std.specs.Prelude.{◌≡◌, ℕ, List, All, Option}
use Rattle.attrs.specs.Attributes.{Attributes}
use Rattle.bpf_semantics.specs.Program.{ShapedProgram}
use Rattle.bpf_semantics.specs.Run.{Ends}
use Rattle.bpf_semantics.specs.State.{State, opening}
use Rattle.bpf_verify.specs.Covers.{AreLawful, HasPossibleReply}
use Rattle.cells.specs.Events.{AreZeros, IsEvent}
use Rattle.cells.specs.Grown.{GrewBy}
use Rattle.cells.specs.declared.event.CellEvent.{CellEvent}
use Rattle.trace.specs.Jumps.{last_jump_of}
use Rattle.trace.specs.declared.jump.Jump.{Jump}

-- a run from a state that changes the counters' values from `old` to `new`, and the last jump that
-- it takes. Its events are allowed by the program's arrays, and each reply is one that its counter
-- can give
pub record IsTraced (p : ShapedProgram) (s : State) (old new : List ℕ) (choice count : ℕ)
    (jump : Option Jump) : Type 0 where
  pub events : List CellEvent
  pub grown : GrewBy IsEvent old events new
  pub ends : Ends p s events choice count
  pub fits : All HasPossibleReply events
  pub lawful : AreLawful p.shape events
  pub jump_is : jump ≡ last_jump_of p s events choice count ends

-- the run of a program for an app, on counters that start at 0
pub record IsTracedRun (p : ShapedProgram) (a : Attributes) (choice count : ℕ)
    (jump : Option Jump) : Type 0 where
  pub zeros : List ℕ
  pub opens : AreZeros 8192 zeros
  pub left : List ℕ
  pub run : IsTraced p (opening a) zeros left choice count jump

-- with some last jump
abbrev pub IsTrace : ShapedProgram → Attributes → (choice count : ℕ) → Type 0
IsTrace p a choice count = (jump : Option Jump) × IsTracedRun p a choice count jump
