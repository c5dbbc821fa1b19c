-- The results of the command `order` for the bytes of a file.
use Rattle.std.specs.Prelude.{◌≡◌, ◌⊎◌, ℕ, List}
use Rattle.acceptance.specs.declared.program_fault.ProgramFault.TheVariants.{Flow}
use Rattle.block_order.specs.Order.{IsOrdered}
use Rattle.block_order.specs.Refusal.{IsOrderFault}
use Rattle.bounded_files.specs.Files.{KnownFiles, OfFile}
use Rattle.bpf_insn.specs.Program.{Program}
use Rattle.flow_check.specs.Flow.{IsAcceptedAs}
use Rattle.flow_check.specs.declared.flow_fault.FlowFault.{FlowFault}
use Rattle.flow_check.specs.declared.flow_fault.FlowFault.TheVariants as flow
use Rattle.cli_programs.specs.Programs.{IsUnreadProgram}
use Rattle.cli_programs.specs.declared.program_tool_fault.ProgramToolFault.{ProgramToolFault}
use Rattle.cli_programs.specs.declared.program_tool_fault.ProgramToolFault.TheVariants as fault

-- the bytes are a program, and this is the same program in order; a program that is already in
-- order stays the same, byte for byte
pub record IsOrderedAs (bytes program : List ℕ) : Type 0 where
  pub order : IsOrdered bytes program
  pub same : (p : Program) → IsAcceptedAs bytes p → program ≡ bytes

-- why the bytes can't be put in order; a program that is already in order is refused only if out of
-- memory
pub record HasNoOrder (bytes : List ℕ) (fault : FlowFault) : Type 0 where
  pub why : IsOrderFault bytes fault
  pub memory : (p : Program) → IsAcceptedAs bytes p → fault ≡ flow.Memory

module _ (known : KnownFiles) (path : List ℕ) where
  abbrev pub IsOrderedFrom : List ℕ → Type 0
  IsOrderedFrom program = OfFile known path (λ bytes. IsOrderedAs bytes program)

  -- the file isn't read, or its bytes can't be put in order
  abbrev pub IsUnordered : ProgramToolFault → Type 0
  IsUnordered (fault.Program (Flow why)) =
      IsUnreadProgram known path (fault.Program (Flow why))
      ⊎ OfFile known path (λ bytes. HasNoOrder bytes why)
  IsUnordered refused = IsUnreadProgram known path refused

  -- or they can, and the program can't be written
  abbrev pub IsOrderRefusal : ProgramToolFault → Type 0
  IsOrderRefusal (fault.Resource why) =
      IsUnordered (fault.Resource why) ⊎ ((program : List ℕ) × IsOrderedFrom program)
  IsOrderRefusal refused = IsUnordered refused
