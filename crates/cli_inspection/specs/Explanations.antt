-- The results of the command `explain` for the bytes of a file.
use Rattle.std.specs.Prelude.{◌≡◌, ℕ, List, ◌++◌, codes, Option, IfSome, option_map, Ok}
use Rattle.std.specs.Prelude.{string_bytes}
use Rattle.acceptance.specs.Program.{AreOnly}
use Rattle.acceptance.specs.declared.program_fault.ProgramFault.TheVariants.{Verify}
use Rattle.bounded_files.specs.Files.{KnownFiles, OfFile}
use Rattle.bpf_checks.specs.declared.refusal.Refusal.TheVariants as refusal
use Rattle.bpf_insn.specs.Program.{Program as Code}
use Rattle.bpf_semantics.specs.Program.{ShapedProgram, shaped}
use Rattle.bpf_text.specs.Assembly.{Assembles}
use Rattle.cells.specs.Arrays.{AppShape}
use Rattle.cli_base.specs.declared.declared_shape.DeclaredShape.{DeclaredShape}
use Rattle.why_refused_program.specs.Lines.{IsExplained, IsFinding}
use Rattle.why_refused_program.specs.RefusedPlace.{IsRefusedPlace}
use Rattle.cli_inspection.specs.declared.explanation.RefusedProgram.{RefusedProgram}
use Rattle.cli_programs.specs.Programs.{IsProgramFault, IsRefusedUnder, IsShapeFor}
use Rattle.cli_programs.specs.Programs.{IsUnreadProgram}
use Rattle.cli_programs.specs.declared.program_tool_fault.ProgramToolFault.{ProgramToolFault}
use Rattle.cli_programs.specs.declared.program_tool_fault.ProgramToolFault.TheVariants.{Program}

-- the reason of a refused program is the line of the rule that refuses it
pub record IsRefusedFor (p : ShapedProgram) (refused : RefusedProgram) : Type 0 where
  pub slot : ℕ
  pub sentence : List ℕ
  pub place : IsRefusedPlace p slot sentence
  pub reason_is : string_bytes refused.reason ≡ sentence ++ codes "\n"

-- a program is accepted with the shape, or refused like this; the text has what is known about it
pub record IsExplainedAs (code : Code) (shape : AppShape) (refused : Option RefusedProgram)
    (text : List ℕ) : Type 0 where
  pub finding : IsFinding code shape (option_map (λ (r : RefusedProgram). r.refusal) refused)
  pub reason : IfSome refused (IsRefusedFor (shaped code shape))
  pub explained : IsExplained (shaped code shape) text

-- the bytes are this program, and the text assembles to them
pub record IsExplanation (bytes : List ℕ) (shape : AppShape) (refused : Option RefusedProgram)
    (text : List ℕ) : Type 0 where
  pub code : Code
  pub are : AreOnly bytes code
  pub reported : IsExplainedAs code shape refused text
  pub same : Assembles text (Ok bytes)

-- why the bytes are refused, as by `verify`, except by a rule
abbrev pub IsExplainFault : AppShape → ProgramToolFault → List ℕ → Type 0
IsExplainFault shape (Program (Verify (refusal.Rule slot rule))) bytes = ⊥
IsExplainFault shape fault bytes = IsProgramFault shape fault bytes

module _ (known : KnownFiles) (path : List ℕ) (options : DeclaredShape) where
  -- the file's program is accepted with the declared shape, or refused like this, and this is what
  -- is known about it
  pub record HasExplained (refused : Option RefusedProgram) (text : List ℕ) : Type 0 where
    pub shape : AppShape
    pub shape_is : IsShapeFor options shape
    pub explained : OfFile known path (λ bytes. IsExplanation bytes shape refused text)

  -- why a file has no explanation
  abbrev pub IsExplainRefusal : ProgramToolFault → Type 0
  IsExplainRefusal fault =
      IsRefusedUnder known path options (IsUnreadProgram known path) IsExplainFault fault
