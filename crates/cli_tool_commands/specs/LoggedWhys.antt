-- What `why` prints, and why it prints nothing. No contract can say what a device's logs contain,
-- nor which counters a server has.
use Rattle.std.specs.Prelude.{◌≡◌, ℕ, List, [], ◌++◌, IsSome}
use Rattle.std.specs.Str.{NoCharPasses}
use Rattle.bounded_files.specs.Files.{KnownFiles}
use Rattle.cell_assignments.specs.Assignments.{Assignment}
use Rattle.cells.specs.declared.array.CellArray.{CellArray}
use Rattle.dry_run.specs.OnCounters.{IsUnassignable}
use Rattle.dry_run.specs.declared.dry_run_fault.DryRunFault.TheVariants.{Manifest}
use Rattle.load.specs.Loaded.{RefusesPath}
use Rattle.load.specs.Opened.{IsOpened}
use Rattle.load.specs.declared.judged.JudgedManifest.{JudgedManifest}
use Rattle.cli_manifests.specs.Checks.{digest_line}
use Rattle.operator.specs.Done.{IsRequestRefusal}
use Rattle.operator_request.specs.declared.request.OperatorRequest.TheVariants as sent
use Rattle.printing.specs.Printed.{is_control_in_line}
use Rattle.cli_tool_commands.specs.DryRuns.{AreServed}
use Rattle.cli_tool_commands.specs.declared.tool_fault.Fault.{Fault}
use Rattle.cli_tool_commands.specs.declared.tool_fault.Fault.TheVariants.{Ask, DryRun, Resource}
use Rattle.cli_tool_words.specs.declared.args.WhyArgs.{WhyArgs}
use Rattle.why_log.specs.Explained.{IsExplanation}
use Rattle.why_log.specs.Found.{AreOf}
use Rattle.why_log.specs.declared.finding.FoundLines.{FoundLines}
use Rattle.why_log.specs.declared.machine.Machine.{Machine}

abbrev pub machine_of : WhyArgs → Machine
machine_of args = record { address = args.address; bucket = args.bucket; id = args.id }

-- lines of that machine
abbrev pub AreLinesOf : WhyArgs → FoundLines → Type 0
AreLinesOf args found = AreOf (machine_of args) found

-- the requests of lines of that machine, explained by the manifest, with that server's counters and
-- the given ones; last the digest of the manifest and of its files. No control character of a line
-- is printed
pub record IsLoggedWhyBy (manifest : JudgedManifest) (args : WhyArgs) (text : List ℕ) : Type 0 where
  pub served : List Assignment
  pub counters : AreServed args.operator served
  pub found : FoundLines
  pub are : AreLinesOf args found
  pub lines : List ℕ
  pub explains : IsExplanation manifest served args.cells.items found.lines.items lines
  pub plain : NoCharPasses is_control_in_line lines
  pub text_is : text ≡ lines ++ digest_line manifest.digest

-- by the manifest of a file
pub record HasLoggedWhy (known : KnownFiles) (args : WhyArgs) (text : List ℕ) : Type 0 where
  pub manifest : JudgedManifest
  pub opened : IsOpened known args.manifest.now manifest
  pub why : IsLoggedWhyBy manifest args text

-- what prevents it, if the manifest is opened: the given counters, or the server at the port, if
-- one is given. A log that can't be read may, and running out of memory
abbrev pub IsLoggedFault : List CellArray → WhyArgs → Fault → Type 0
IsLoggedFault arrays args (DryRun why) =
    (served : List Assignment) × AreServed args.operator served
    × IsUnassignable arrays served args.cells.items why
IsLoggedFault arrays args (Ask why) = IsSome args.operator × IsRequestRefusal sent.Cells why
IsLoggedFault arrays args (Resource why) = Unit {0}
IsLoggedFault arrays args why = ⊥

pub record IsUnexplained (known : KnownFiles) (args : WhyArgs) (why : Fault) : Type 0 where
  pub manifest : JudgedManifest
  pub opened : IsOpened known args.manifest.now manifest
  pub because : IsLoggedFault manifest.directory args why

-- what prevents it; a fault of the manifest comes first
abbrev pub IsLoggedRefusal : KnownFiles → WhyArgs → Fault → Type 0
IsLoggedRefusal known args (DryRun (Manifest why)) = RefusesPath known args.manifest.now [] why
IsLoggedRefusal known args why = IsUnexplained known args why
