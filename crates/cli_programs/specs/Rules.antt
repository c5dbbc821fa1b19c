-- Programs of rules, with the shape that the command line declares. A file of more than 16 MiB
-- counts as unreadable.
use Rattle.std.specs.Prelude.{◌≡◌, ◌⊎◌, ◌≤◌, ℕ, List, length}
use Rattle.bpf_semantics.specs.Program.{ShapedProgram}
use Rattle.cells.specs.Arrays.{AppShape}
use Rattle.acceptance.specs.Rule.{IsProgramOfRule, RefusesRule}
use Rattle.bounded_files.specs.Files.{KnownFiles, most_bytes, within, OfFileWithin}
use Rattle.cli_base.specs.declared.declared_shape.DeclaredShape.{DeclaredShape}
use Rattle.cli_programs.specs.declared.program_tool_fault.ProgramToolFault.{ProgramToolFault}
use Rattle.cli_programs.specs.declared.program_tool_fault.ProgramToolFault.TheVariants.{Resource}
use Rattle.cli_programs.specs.declared.program_tool_fault.ProgramToolFault.TheVariants.{Rule}
use Rattle.cli_programs.specs.Programs.{IsShapeFor, IsRefusedUnder}
use Rattle.cli_programs.specs.Resources.{IsNoFile}

-- why the bytes give no program
abbrev pub IsCompileFault : AppShape → ProgramToolFault → List ℕ → Type 0
IsCompileFault shape (Rule fault) bytes =
    (length bytes ≤ most_bytes) × RefusesRule bytes shape fault
IsCompileFault shape fault bytes = ⊥

module _ (known : KnownFiles) (path : List ℕ) (options : DeclaredShape) where
  -- the program is accepted with the declared shape, and has the meaning of the rule in the file
  pub record IsRuleProgramFor (p : ShapedProgram) : Type 0 where
    pub shape : IsShapeFor options p.shape
    pub program : OfFileWithin most_bytes known path (λ bytes. IsProgramOfRule bytes p)

  abbrev pub IsRuleRefusal : ProgramToolFault → Type 0
  IsRuleRefusal fault =
      IsRefusedUnder (within most_bytes known) path options
      (IsNoFile (within most_bytes known) path) IsCompileFault fault

  -- such a program has `slots` slots
  abbrev pub HasCompiled : ℕ → Type 0
  HasCompiled slots = (p : ShapedProgram) × IsRuleProgramFor p × (slots ≡ length p.code)

  -- no such program exists, or it can't be written
  abbrev pub IsCompileRefusal : ProgramToolFault → Type 0
  IsCompileRefusal (Resource fault) =
      IsRuleRefusal (Resource fault) ⊎ ((p : ShapedProgram) × IsRuleProgramFor p)
  IsCompileRefusal fault = IsRuleRefusal fault
