-- What a server replied, or that it didn't.
use Rattle.std.proofs.Common.{◌≡◌, ◌||◌, Option, Some, None, IfSome, true, is_some}
use Rattle.server_replies.specs.Said.{Replies}
use Rattle.cli_tool_commands.specs.Servers.{AreReplies, IsReplied}
use Rattle.cli_tool_words.specs.declared.args.ReportArgs.{ReportArgs}

pub replied : (args : ReportArgs) (replies : Option Replies)
    → (args.prometheus || is_some args.page) ≡ true → IfSome replies AreReplies
    → IsReplied args replies
replied args None whole are = whole
replied args (Some replies) whole are = are
