-- The files that halt an app: a rule and a program that offer nothing.
use Rattle.std.specs.Prelude.{◌≡◌, ℕ, List, [], ◌∷◌, codes}
use Rattle.attrs.specs.Attributes.{Attributes}
use Rattle.bpf_insn.specs.Program.{Program}
use Rattle.bpf_semantics.specs.Program.{ShapedProgram, shaped}
use Rattle.bpf_semantics.specs.Run.{AlwaysEnds, Ends}
use Rattle.bpf_semantics.specs.State.{opening}
use Rattle.cells.specs.Arrays.{AppShape}
use Rattle.cells.specs.declared.event.CellEvent.{CellEvent}
use Rattle.load.specs.Source.{IsProgramFrom, RefusesFile}
use Rattle.load.specs.declared.load_fault.AppFault.{AppFault}
use Rattle.load.specs.declared.load_fault.AppFault.TheVariants.{Memory}
use Rattle.manifest.specs.declared.app.ProgramSource.{ProgramSource}
use Rattle.manifest.specs.declared.app.ProgramSource.TheVariants as source

-- a rule without a statement
abbrev pub halted_rule : List ℕ
halted_rule = codes "otherwise none;\n"

-- `mov r0, 0` and `exit`
abbrev pub halted_program : List ℕ
halted_program =
    0xb7 ∷ 0 ∷ 0 ∷ 0 ∷ 0 ∷ 0 ∷ 0 ∷ 0 ∷ 0x95 ∷ 0 ∷ 0 ∷ 0 ∷ 0 ∷ 0 ∷ 0 ∷ 0 ∷ []

-- what replaces an app's file: a rule, or a program
abbrev pub halting_file : ProgramSource → List ℕ
halting_file (source.Rule file) = halted_rule
halting_file (source.Program file) = halted_program

-- a load accepts these bytes as an app's file, whatever the app's releases and the manifest's
-- arrays are; only an allocation may fail
abbrev pub IsAcceptedAlways : ProgramSource → List ℕ → Type 0
IsAcceptedAlways source bytes =
    (shape : AppShape) (fault : AppFault) → RefusesFile source bytes shape fault → fault ≡ Memory

-- for all attributes, under each shape, the run ends with 0 and without an event on counters; no
-- run ends otherwise
pub record ChoosesNone (code : Program) : Type 0 where
  pub count : ℕ
  pub ends : AlwaysEnds code 0 count
  pub only : (a : Attributes) (shape : AppShape) (events : List CellEvent) (choice steps : ℕ)
      → Ends (shaped code shape) (opening a) events choice steps
      → (events ≡ []) × (choice ≡ 0)

-- an app whose file has these bytes is loaded, and nobody is offered a release
pub record Halts (source : ProgramSource) (bytes : List ℕ) : Type 0 where
  pub accepted : IsAcceptedAlways source bytes
  pub none : (program : ShapedProgram) → IsProgramFrom source bytes program
      → ChoosesNone program.code
