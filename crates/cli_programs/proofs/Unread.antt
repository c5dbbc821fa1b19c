-- A file that can't be read.
use Rattle.std.proofs.Common.{ℕ, List, Err}
use Rattle.bounded_files.specs.Files.{KnownFiles, ReadsAtMost, ReadsFile}
use Rattle.bounded_files.specs.declared.resource_fault.ResourceFault.{ResourceFault}
use Rattle.bounded_files.specs.declared.resource_fault.ResourceFault.TheVariants.{File, Memory}
use Rattle.cli_programs.specs.Resources.{IsNoFile}
use Rattle.cli_programs.specs.declared.program_tool_fault.ProgramToolFault.TheVariants.{Resource}

module _ (known : KnownFiles) (path : List ℕ) where
  pub unread : (most : ℕ) (fault : ResourceFault) → ReadsAtMost most known path (Err fault)
      → IsNoFile known path (Resource fault)
  unread most File h = h
  unread most Memory h = tt

  pub no_file : (fault : ResourceFault) → ReadsFile known path (Err fault)
      → IsNoFile known path (Resource fault)
  no_file File h = h
  no_file Memory h = tt
