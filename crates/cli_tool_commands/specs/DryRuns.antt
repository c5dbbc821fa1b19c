-- What `ask` prints, and why it prints nothing. No contract can say which second the clock gives,
-- nor which counters a server has.
use Rattle.std.specs.Prelude.{◌≡◌, ◌⊎◌, ℕ, ℤ, List, [], Option, Some, None, IsSome}
use Rattle.std.specs.Str.Lines.{lines}
use Rattle.bounded_files.specs.Files.{KnownFiles}
use Rattle.bounded_files.specs.declared.resource_fault.ResourceFault.TheVariants as resource
use Rattle.cells.specs.declared.array.CellArray.{CellArray}
use Rattle.dry_run.specs.Files.{AreOpened, IsOpenFault}
use Rattle.dry_run.specs.OnCounters.{IsUnanswered, RepliesOnCounters}
use Rattle.operator.specs.Done.{IsRequestRefusal, IsDoneAs}
use Rattle.operator_request.specs.declared.request.OperatorRequest.TheVariants as sent
use Rattle.ruleset.specs.Rules.{Rules}
use Rattle.cell_assignments.specs.Assignments.{Assignment, assignments_in}
use Rattle.cli_tool_commands.specs.declared.tool_fault.Fault.{Fault}
use Rattle.cli_tool_commands.specs.declared.tool_fault.Fault.TheVariants.{Ask, DryRun, Resource}
use Rattle.cli_tool_words.specs.declared.args.AskArgs.{AskArgs}

-- ---- from a ruleset with its arrays, for a body

-- the cells of some reply to `cells`, and none without a port
abbrev pub AreServed : (port : Option ℕ) → List Assignment → Type 0
AreServed None served = served ≡ []
AreServed (Some port) served =
    (reply : List ℕ) × IsDoneAs sent.Cells reply × (served ≡ assignments_in (lines reply))

-- the given moment, or any moment without one
abbrev pub IsAt : (at : Option ℤ) → ℤ → Type 0
IsAt None moment = Unit {0}
IsAt (Some at) moment = moment ≡ at

-- the reply at that moment, with the counters of that server and the given ones
pub record IsReplyBy (rules : Rules) (arrays : List CellArray) (body : List ℕ)
    (args : AskArgs) (text : List ℕ) : Type 0 where
  pub moment : ℤ
  pub at : IsAt args.at moment
  pub served : List Assignment
  pub counters : AreServed args.operator served
  pub replies : RepliesOnCounters rules arrays body moment served args.cells.items text

-- what prevents a reply: the server at the port, if one is given, or else the counters or the body;
-- nothing is claimed for out of memory
abbrev pub IsReplyFault : List CellArray → (body : List ℕ) → AskArgs → Fault → Type 0
IsReplyFault arrays body args (DryRun why) =
    (served : List Assignment) × AreServed args.operator served
    × IsUnanswered arrays body served args.cells.items why
IsReplyFault arrays body args (Ask why) = IsSome args.operator × IsRequestRefusal sent.Cells why
IsReplyFault arrays body args (Resource resource.Memory) = Unit {0}
IsReplyFault arrays body args why = ⊥

-- ---- from the files

-- the reply to the body in one file, by the ruleset of the manifest in the other
pub record HasDryRun (known : KnownFiles) (args : AskArgs) (text : List ℕ) : Type 0 where
  pub rules : Rules
  pub arrays : List CellArray
  pub body : List ℕ
  pub opened : AreOpened known args.manifest.now args.request.now rules arrays body
  pub reply : IsReplyBy rules arrays body args text

-- what prevents a reply, if the files have a ruleset and a body
pub record IsUnansweredFile (known : KnownFiles) (args : AskArgs) (why : Fault) : Type 0 where
  pub rules : Rules
  pub arrays : List CellArray
  pub body : List ℕ
  pub opened : AreOpened known args.manifest.now args.request.now rules arrays body
  pub because : IsReplyFault arrays body args why

-- what prevents a reply; a fault of the files comes first
abbrev pub IsDryRunRefusal : KnownFiles → AskArgs → Fault → Type 0
IsDryRunRefusal known args (DryRun why) =
    IsOpenFault known args.manifest.now args.request.now why
    ⊎ IsUnansweredFile known args (DryRun why)
IsDryRunRefusal known args why = IsUnansweredFile known args why
