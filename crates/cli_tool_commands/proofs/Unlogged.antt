-- What `why` prints, and why it is refused, if its manifest is opened.
use Rattle.std.proofs.Common.{◌≡◌, ◌∙◌, ◌++◌, ℕ, List, subst}
use Rattle.std.specs.Str.{NoCharPasses}
use Rattle.std.specs.Str.Lines.{lines}
use Rattle.bounded_files.specs.Files.{KnownFiles}
use Rattle.cell_assignments.specs.Assignments.{Assignment, assignments_in}
use Rattle.dry_run.specs.declared.dry_run_fault.DryRunFault.TheVariants as dry
use Rattle.load.specs.Opened.{IsOpened}
use Rattle.load.specs.declared.judged.JudgedManifest.{JudgedManifest}
use Rattle.cli_manifests.specs.Checks.{digest_line}
use Rattle.printing.specs.Printed.{is_control_in_line}
use Rattle.cli_tool_commands.specs.DryRuns.{AreServed}
use Rattle.cli_tool_commands.specs.LoggedWhys.{AreLinesOf, IsLoggedFault, IsLoggedRefusal}
use Rattle.cli_tool_commands.specs.LoggedWhys.{IsLoggedWhyBy, IsUnexplained}
use Rattle.cli_tool_commands.specs.declared.tool_fault.Fault.{Fault}
use Rattle.cli_tool_commands.specs.declared.tool_fault.Fault.TheVariants.{DryRun}
use Rattle.cli_tool_words.specs.declared.args.WhyArgs.{WhyArgs}
use Rattle.why_log.specs.Explained.{IsExplanation}
use Rattle.why_log.specs.declared.finding.FoundLines.{FoundLines}

-- ---- the output

pub logged_by : (manifest : JudgedManifest) (args : WhyArgs) (reply : List ℕ)
    (served given words : List Assignment) (found : FoundLines) (explained text : List ℕ)
    → served ≡ assignments_in (lines reply)
    → AreServed args.operator (assignments_in (lines reply)) → given ≡ served
    → words ≡ args.cells.items → AreLinesOf args found
    → IsExplanation manifest given words found.lines.items explained
    → NoCharPasses is_control_in_line explained → text ≡ explained ++ digest_line manifest.digest
    → IsLoggedWhyBy manifest args text
logged_by manifest args reply served given words found explained text read are same named of
    explains plain is =
    let E : (given words : List Assignment) → Type 0 = λ given words.
    IsExplanation manifest given words found.lines.items explained in
    record {
      served = assignments_in (lines reply);
      counters = are;
      found = found;
      are = of;
      lines = explained;
      explains = subst (λ (w : List Assignment). E (assignments_in (lines reply)) w) named
          (subst (λ (s : List Assignment). E s words) (same ∙ read) explains);
      plain = plain;
      text_is = is;
    }

-- ---- a refusal

by_fault : (known : KnownFiles) (args : WhyArgs) (fault : Fault)
    → IsUnexplained known args fault → IsLoggedRefusal known args fault
by_fault known args (DryRun (dry.Manifest why)) is = absurd is.because.2
by_fault known args fault is = is

pub unlogged : (known : KnownFiles) (args : WhyArgs) (manifest : JudgedManifest) (fault : Fault)
    → IsOpened known args.manifest.now manifest → IsLoggedFault manifest.directory args fault
    → IsLoggedRefusal known args fault
unlogged known args manifest fault opened because =
    by_fault known args fault
    (record { manifest = manifest; opened = opened; because = because })
