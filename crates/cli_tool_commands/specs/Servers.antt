-- What a report shows of a server. No contract can say what a server replies.
use Rattle.std.specs.Prelude.{◌≡◌, ◌||◌, ℕ, List, Option, Some, None, IfSome, true, is_some}
use Rattle.std.specs.Prelude.{option_map, string_bytes}
use Rattle.operator.specs.Done.{IsDoneAs}
use Rattle.operator_request.specs.declared.request.OperatorRequest.TheVariants as sent
use Rattle.server_metrics.specs.Servers.{server_exposition}
use Rattle.server_replies.specs.Said.{Replies}
use Rattle.cli_tool_commands.specs.declared.found_server.FoundReplies.{FoundReplies}
use Rattle.cli_tool_commands.specs.declared.found_server.FoundServer.{FoundServer}
use Rattle.cli_tool_words.specs.declared.args.ReportArgs.{ReportArgs}

abbrev pub replies_in : FoundReplies → Replies
replies_in found = record {
  state = option_map string_bytes found.state;
  cells = string_bytes found.cells;
}

abbrev pub found_replies : FoundServer → Option Replies
found_replies found = option_map replies_in found.replies

-- replies of a server that did what was requested
pub record AreReplies (replies : Replies) : Type 0 where
  pub state : IfSome replies.state (IsDoneAs sent.State)
  pub cells : IsDoneAs sent.Cells replies.cells

-- such replies; or none, which only a report for Prometheus or one with a page shows
abbrev pub IsReplied : ReportArgs → Option Replies → Type 0
IsReplied args (Some replies) = AreReplies replies
IsReplied args None = (args.prometheus || is_some args.page) ≡ true

-- nothing is requested without a port
abbrev pub IsFound : ReportArgs → (port : Option ℕ) → Option (Option Replies) → Type 0
IsFound args None None = Unit {0}
IsFound args (Some port) (Some replies) = IsReplied args replies
IsFound args port found = ⊥

-- what that server says, in Prometheus's format; empty without a port. No clause says how a screen
-- shows its counters
abbrev pub HasServer : ReportArgs → List ℕ → Type 0
HasServer args text =
    (said : Option (Option Replies)) × IsFound args args.operator said
    × (args.prometheus ≡ true → text ≡ server_exposition said)
