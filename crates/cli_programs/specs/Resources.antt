-- Files that can't be read.
use Rattle.std.specs.Prelude.{ℕ, List, None}
use Rattle.bounded_files.specs.Files.{KnownFiles, Gives}
use Rattle.bounded_files.specs.declared.resource_fault.ResourceFault.TheVariants.{File, Memory}
use Rattle.cli_programs.specs.declared.program_tool_fault.ProgramToolFault.{ProgramToolFault}
use Rattle.cli_programs.specs.declared.program_tool_fault.ProgramToolFault.TheVariants.{Resource}

-- the file can't be read; running out of memory is always allowed
abbrev pub IsNoFile : KnownFiles → List ℕ → ProgramToolFault → Type 0
IsNoFile known path (Resource File) = Gives known path None
IsNoFile known path (Resource Memory) = Unit {0}
IsNoFile known path fault = ⊥
