-- If a rule gives no program, none is written.
use Rattle.std.proofs.Common.{ℕ, List, inl}
use Rattle.bounded_files.specs.Files.{KnownFiles}
use Rattle.cli_base.specs.declared.declared_shape.DeclaredShape.{DeclaredShape}
use Rattle.cli_programs.specs.Rules.{IsRuleRefusal, IsCompileRefusal}
use Rattle.cli_programs.specs.declared.program_tool_fault.ProgramToolFault.{ProgramToolFault}
use Rattle.cli_programs.specs.declared.program_tool_fault.ProgramToolFault.TheVariants.{Resource}
use Rattle.cli_programs.specs.declared.program_tool_fault.ProgramToolFault.TheVariants.{Arrays}
use Rattle.cli_programs.specs.declared.program_tool_fault.ProgramToolFault.TheVariants.{Text}
use Rattle.cli_programs.specs.declared.program_tool_fault.ProgramToolFault.TheVariants.{Rule}
use Rattle.cli_programs.specs.declared.program_tool_fault.ProgramToolFault.TheVariants.{Bytes}
use Rattle.cli_programs.specs.declared.program_tool_fault.ProgramToolFault.TheVariants.{Program}

module _ (known : KnownFiles) (path : List ℕ) (options : DeclaredShape) where
  pub no_program : (fault : ProgramToolFault) → IsRuleRefusal known path options fault
      → IsCompileRefusal known path options fault
  no_program (Resource fault) h = inl h
  no_program (Arrays fault) h = h
  no_program (Text fault) h = h
  no_program (Rule fault) h = h
  no_program (Bytes fault) h = h
  no_program (Program fault) h = h
