-- The log's line of a file of counters that can't be written.
use Rattle.std.specs.Prelude.{◌≡◌, ℕ, List, Option, Some, option_copied}
use Rattle.std.specs.Borrow.{Bor}
use Rattle.access_log.specs.Line.{event_line}
use Rattle.access_log.specs.declared.log_event.LogEvent.TheVariants as log
use Rattle.access_log.specs.declared.utc.Utc.{Utc}

-- the line at this time of a server with this port, and of this refusal
pub record IsCountersLine (time : Utc) (port : ℕ) (text : List ℕ) (line : List ℕ) : Type 0 where
  pub refusal : Option (Bor (List ℕ))
  pub refusal_is : option_copied refusal ≡ Some text
  pub line_is : line ≡ event_line (record { time = time; port = port }) (log.Counters refusal)
