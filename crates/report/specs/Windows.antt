-- Which lines of a log count: the server's, in the window.
use Rattle.std.specs.Prelude.{ℕ, List, length, nat_le, Bool, true, not, ◌&&◌}
use Rattle.std.specs.Prelude.{Option, Some, None, is_some, option_and_then, if◌then◌else◌}
use Rattle.std.specs.Prelude.{option_copied, false}
use Rattle.std.specs.Cmp.Lexicographic.{slice_cmp}
use Rattle.std.specs.Ordering.{is_lt, nat_cmp}
use Rattle.serde_json.specs.Data.{Data}
use Rattle.json_value.specs.Bytes.{json_of}
use Rattle.report.specs.LogEvents.{is_text}
use Rattle.report.specs.Members.{LineMembers, line_members}
use Rattle.report.specs.declared.window.Window.{Window}

-- ---- a line

abbrev pub is_kind : (kind : List ℕ) → LineMembers → Bool
is_kind kind line = is_text kind line.kind

-- a line of the server has at most 65536 bytes, and is a JSON object
abbrev pub value_in : List ℕ → Option Data
value_in line = if nat_le (length line) 65536 then json_of line else None

-- with a time and a kind
abbrev pub is_event : LineMembers → Bool
is_event line = is_some line.time && is_some line.kind

abbrev pub if_event : LineMembers → Option LineMembers
if_event line = if is_event line then Some line else None

abbrev pub event_of : Data → Option LineMembers
event_of d = if_event (line_members d)

abbrev pub event_in : List ℕ → Option LineMembers
event_in line = option_and_then event_of (value_in line)

-- ---- the window

-- Times are compared as texts, because a server writes all times in one form, from the year down to
-- the millisecond.
abbrev pub is_before : List ℕ → List ℕ → Bool
is_before time moment = is_lt (slice_cmp nat_cmp time moment)

abbrev pub is_since : Option (List ℕ) → List ℕ → Bool
is_since (Some since) time = not (is_before time since)
is_since None time = true

abbrev pub is_until : Option (List ℕ) → List ℕ → Bool
is_until (Some until) time = is_before time until
is_until None time = true

-- from the window's beginning on, and before its end
abbrev pub is_within : Window → Option (List ℕ) → Bool
is_within window (Some time) =
    is_since (option_copied window.since) time && is_until (option_copied window.until) time
is_within window None = false

abbrev pub if_within : Window → LineMembers → Option LineMembers
if_within window line = if is_within window line.time then Some line else None

-- the event of a line, if it is the server's and in the window
abbrev pub event_in_window : Window → List ℕ → Option LineMembers
event_in_window window line = option_and_then (if_within window) (event_in line)
