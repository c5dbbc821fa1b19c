-- The results of the command `trace` for the bytes of a file.
use Rattle.std.specs.Prelude.{ℕ}
use Rattle.bounded_files.specs.Files.{KnownFiles}
use Rattle.bpf_semantics.specs.Program.{ShapedProgram}
use Rattle.cli_base.specs.Apps.{app_attributes}
use Rattle.cli_base.specs.declared.run_args.RunArgs.{RunArgs}
use Rattle.cli_programs.specs.Programs.{IsProgramFor}
use Rattle.trace.specs.Trace.{IsTrace}

-- the requested program is accepted, and makes this choice after `count` instructions. No clause
-- says how the lines of its run look
abbrev pub HasTraced : KnownFiles → RunArgs → (choice count : ℕ) → Type 0
HasTraced known run choice count =
    (p : ShapedProgram) × IsProgramFor known run.path.now run.shape p
    × IsTrace p (app_attributes run.app run.bucket) choice count
