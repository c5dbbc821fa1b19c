-- What a server says of itself.
use Rattle.std.specs.Prelude.{ℕ, List, Option, Some, None, option_copied}
use Rattle.server_replies.specs.declared.facts.ServerFacts.{ServerFacts}
use Rattle.server_replies.specs.declared.facts.ServerReplies.{ServerReplies}

-- its replies to `state`, unless it is an older server, and to `cells`
pub record Replies : Type 0 where
  pub state : Option (List ℕ)
  pub cells : List ℕ

-- nothing, if it doesn't reply
abbrev pub replies_of : Option ServerReplies → Option Replies
replies_of None = None
replies_of (Some replies) =
    Some (record { state = option_copied replies.state; cells = replies.cells.now })

-- none without a server
abbrev pub said_by : Option ServerFacts → Option (Option Replies)
said_by None = None
said_by (Some server) = Some (replies_of server.replies)
