-- What a line of the log says of an event, and its text: a JSON object, and a line feed.
use Rattle.std.specs.Prelude.{◌≡◌, ℕ, List, [], ◌∷◌, ◌++◌, codes, length}
use Rattle.std.specs.Prelude.{nat_lt, if◌then◌else◌, Bool, false}
use Rattle.std.specs.Prelude.{Option, None, option_copied, ⊤}
use Rattle.std.specs.Borrow.{Bor}
use Rattle.std.specs.Str.{NoCharPasses}
use Rattle.json.specs.Token.{Token, begin_object, end_object}
use Rattle.printing.specs.Printed.{is_control}
use Rattle.access_log.specs.Apps.{apps_members}
use Rattle.access_log.specs.Brief.{ListsEnough}
use Rattle.access_log.specs.Members.{text_member, number_member, flag_member, optional_member}
use Rattle.access_log.specs.Members.{count_member, excerpt_members, optional_excerpt}
use Rattle.access_log.specs.Spelled.{spelled}
use Rattle.access_log.specs.Utc.{utc_text}
use Rattle.access_log.specs.declared.log_event.Connection.{Connection}
use Rattle.access_log.specs.declared.log_event.Counter.{Counter}
use Rattle.access_log.specs.declared.log_event.Halt.{Halt}
use Rattle.access_log.specs.declared.log_event.LineHeader.{LineHeader}
use Rattle.access_log.specs.declared.log_event.LogEvent.{LogEvent}
use Rattle.access_log.specs.declared.log_event.LogEvent.TheVariants as log
use Rattle.access_log.specs.declared.log_event.Load.{Load}
use Rattle.access_log.specs.declared.log_event.Start.{Start}
use Rattle.access_log.specs.declared.log_event.Totals.{Totals}
use Rattle.access_log.specs.declared.excerpt.Excerpt.{Excerpt}
use Rattle.access_log.specs.declared.utc.Utc.{Utc}

-- ---- the members of an event, in their order

abbrev pub kind_member : List ℕ → List Token
kind_member kind = text_member (codes "kind") kind

abbrev pub path_members : Excerpt → List Token
path_members path = excerpt_members (codes "path") (codes "path_left_out") path

abbrev pub start_members : Start → List Token
start_members start =
    kind_member (codes "start") ++ path_members start.manifest
    ++ number_member (codes "operator") start.operator
    ++ optional_member (codes "digest") (option_copied start.digest)
    ++ optional_member (codes "counters") (option_copied start.counters)
    ++ optional_member (codes "refusal") (option_copied start.refusal)
    ++ optional_excerpt (codes "cause") (codes "cause_left_out") start.cause

-- the server is ready
abbrev pub serving_members : ℕ → List Token
serving_members generation =
    kind_member (codes "serving") ++ number_member (codes "generation") generation

abbrev pub load_members : Load → List Token
load_members load =
    kind_member (codes "load") ++ path_members load.path
    ++ count_member (codes "generation") load.generation
    ++ optional_member (codes "digest") (option_copied load.digest)
    ++ count_member (codes "halted") load.halted
    ++ optional_member (codes "refusal") (option_copied load.refusal)
    ++ optional_excerpt (codes "cause") (codes "cause_left_out") load.cause

-- the word that requested a halt, or its end
abbrev pub halt_word_member : Bool → List Token
halt_word_member is_resume =
    text_member (codes "word") (if is_resume then codes "resume" else codes "halt")

abbrev pub halt_members : Halt → List Token
halt_members halt =
    kind_member (codes "halt") ++ excerpt_members (codes "app") (codes "app_left_out") halt.app
    ++ halt_word_member halt.is_resume
    ++ count_member (codes "generation") halt.generation
    ++ optional_member (codes "refusal") (option_copied halt.refusal)

-- only a request that has no id has the member
abbrev pub id_member : Bool → List Token
id_member lacks_id = if lacks_id then flag_member (codes "id") false else []

-- the reply, if there was one
abbrev pub reply_members : Connection → List Token
reply_members connection =
    count_member (codes "status") connection.status
    ++ optional_member (codes "refusal") (option_copied connection.refusal)
    ++ optional_member (codes "cause") (option_copied connection.cause)
    ++ count_member (codes "generation") connection.generation
    ++ number_member (codes "bytes") connection.bytes
    ++ number_member (codes "micros") connection.micros
    ++ number_member (codes "waited") connection.waited

abbrev pub connection_members : Connection → List Token
connection_members connection =
    kind_member (codes "connection")
    ++ text_member (codes "peer") connection.peer.now
    ++ optional_member (codes "forwarded") (option_copied connection.forwarded)
    ++ id_member connection.lacks_id
    ++ optional_member (codes "request_id") (option_copied connection.request_id)
    ++ reply_members connection
    ++ apps_members connection.apps.now

abbrev pub unaccepted_members : List ℕ → List Token
unaccepted_members reason =
    kind_member (codes "unaccepted") ++ text_member (codes "reason") reason

abbrev pub lost_members : ℕ → List Token
lost_members lines = kind_member (codes "lost") ++ number_member (codes "lines") lines

-- the number of replies of each status
abbrev pub status_members : Totals → List Token
status_members totals =
    number_member (codes "status_200") totals.success
    ++ number_member (codes "status_400") totals.bad_request
    ++ number_member (codes "status_404") totals.not_found
    ++ number_member (codes "status_405") totals.method_not_allowed
    ++ number_member (codes "status_411") totals.length_required
    ++ number_member (codes "status_413") totals.content_too_large
    ++ number_member (codes "status_431") totals.header_fields_too_large
    ++ number_member (codes "status_500") totals.internal_server_error
    ++ count_member (codes "status_503") totals.service_unavailable

-- totals of the connections of a minute
abbrev pub totals_members : Totals → List Token
totals_members totals =
    kind_member (codes "totals") ++ status_members totals
    ++ number_member (codes "dropped") totals.dropped
    ++ number_member (codes "longest_wait") totals.longest_wait
    ++ number_member (codes "busy") totals.busy

-- the file of the counters can't be written; or it can be again
abbrev pub counters_members : Option (Bor (List ℕ)) → List Token
counters_members refusal =
    kind_member (codes "counters") ++ optional_member (codes "refusal") (option_copied refusal)

abbrev pub stop_members : Option (Bor (List ℕ)) → List Token
stop_members refusal =
    kind_member (codes "stop") ++ optional_member (codes "refusal") (option_copied refusal)

abbrev pub counter_members : Counter → List Token
counter_members counter =
    kind_member (codes "counter")
    ++ text_member (codes "array") counter.array.now
    ++ number_member (codes "index") counter.index
    ++ number_member (codes "value") counter.value

abbrev pub members_of : LogEvent → List Token
members_of (log.Start start) = start_members start
members_of (log.Serving generation) = serving_members generation
members_of (log.Load load) = load_members load
members_of (log.Halt halt) = halt_members halt
members_of (log.Connection connection) = connection_members connection
members_of (log.Unaccepted reason) = unaccepted_members reason.now
members_of (log.Lost lines) = lost_members lines
members_of (log.Totals totals) = totals_members totals
members_of (log.Counters refusal) = counters_members refusal
members_of (log.Stop refusal) = stop_members refusal
members_of (log.Counter counter) = counter_members counter

-- ---- the line

-- an object begins with the time and the port
abbrev pub begun_at : Utc → ℕ → List Token
begun_at time port =
    (begin_object ∷ []) ++ text_member (codes "time") (utc_text time)
    ++ number_member (codes "port") port

abbrev pub object_with : LineHeader → List Token → List Token
object_with header members =
    begun_at header.time header.port ++ members ++ (end_object ∷ [])

abbrev pub with_line_feed : List Token → List ℕ
with_line_feed tokens = spelled tokens ++ 10 ∷ []

abbrev pub line_with : LineHeader → List Token → List ℕ
line_with header members = with_line_feed (object_with header members)

-- What replaces a line of more than 4096 bytes. A server's connections never have such a line:
-- their apps have at most 3641 bytes, and the rest, without `request_id`, at most 455. No clause
-- says so; a row of test_access_log has the longest.
abbrev pub too_long_members : ℕ → List Token
too_long_members bytes = kind_member (codes "too-long") ++ number_member (codes "bytes") bytes

-- a line of more than 4096 bytes is replaced by its length
abbrev pub line_or_length : LineHeader → List ℕ → List ℕ
line_or_length header whole =
    if nat_lt 4096 (length whole) then line_with header (too_long_members (length whole)) else whole

-- a connection without the prefix of its request's id
abbrev pub without_request_id : LogEvent → LogEvent
without_request_id (log.Connection connection) =
    log.Connection (record connection { request_id = None })
without_request_id e = e

-- a line of more than 4096 bytes is replaced by a shorter one
abbrev pub line_or_shorter : LineHeader → (whole shorter : List ℕ) → List ℕ
line_or_shorter header whole shorter =
    if nat_lt 4096 (length whole) then line_or_length header shorter else whole

-- the line of an event: without the request's id if it is too long otherwise
abbrev pub event_line : LineHeader → LogEvent → List ℕ
event_line header e =
    line_or_shorter header (line_with header (members_of e))
    (line_with header (members_of (without_request_id e)))

-- all apps of a connection are logged, or at least eleven, if they are as brief as a server makes
-- them
abbrev pub ListsApps : LogEvent → Type 0
ListsApps (log.Connection connection) = ListsEnough connection.apps.now
ListsApps e = ⊤

-- one line: a text without a control, which is UTF-8, and a line feed
abbrev pub IsOneLine : List ℕ → Type 0
IsOneLine line = (text : List ℕ) × (line ≡ text ++ 10 ∷ []) × NoCharPasses is_control text
