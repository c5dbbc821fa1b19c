-- Which lines of a log are requests of a machine.
use Rattle.std.specs.Prelude.{ℕ, List, Bool, true, false, ◌&&◌, ◌||◌, codes, drop, is_some, length}
use Rattle.std.specs.Prelude.{Option, Some, None, nat_eq, nat_lt, option_copied, if◌then◌else◌}
use Rattle.std.specs.List.{starts_with}
use Rattle.std.specs.Str.{bytes_eq}
use Rattle.serde_json.specs.Data.{Data, Items, item, no_items}
use Rattle.report.specs.LogEvents.{is_number, is_text, list_in, number_in, text_in}
use Rattle.why_log.specs.Requests.{moment_in}
use Rattle.why_log.specs.declared.machine.Machine.{Machine}

abbrev pub is_connection : Data → Bool
is_connection line = is_text (codes "connection") (text_in (codes "kind") line)

-- ---- the address

-- a text begins with another one, and then with `after`
abbrev pub begins : (text first after : List ℕ) → Bool
begins text first after =
    if nat_lt (length text) (length first) then false
    else (starts_with nat_eq text first && starts_with nat_eq (drop (length first) text) after)

-- the other end of a connection is a port of this address; one of IPv6 is in brackets
abbrev pub is_host : (address peer : List ℕ) → Bool
is_host address peer =
    if starts_with nat_eq peer (codes "[") then begins (drop 1 peer) address (codes "]:")
    else begins peer address (codes ":")

abbrev pub is_peer : (address : List ℕ) → Option (List ℕ) → Bool
is_peer address (Some peer) = is_host address peer
is_peer address None = false

-- the address that a proxy named is this one; or there is none, and the other end's is
abbrev pub is_sender : (address : List ℕ) → (forwarded peer : Option (List ℕ)) → Bool
is_sender address (Some forwarded) peer = bytes_eq forwarded address
is_sender address None peer = is_peer address peer

abbrev pub has_address : Option (List ℕ) → Data → Bool
has_address (Some address) line =
    is_sender address (text_in (codes "forwarded") line) (text_in (codes "peer") line)
has_address None line = true

-- ---- the bucket

abbrev pub is_in : (bucket : ℕ) → Data → Bool
is_in bucket app = is_number bucket (number_in (codes "bucket") app)

-- one of the apps is in the bucket
abbrev pub any_in : (bucket : ℕ) → Items → Bool
any_in bucket no_items = false
any_in bucket (item app apps) = is_in bucket app || any_in bucket apps

abbrev pub any_listed : (bucket : ℕ) → Option Items → Bool
any_listed bucket (Some apps) = any_in bucket apps
any_listed bucket None = false

abbrev pub has_bucket : Option ℕ → Data → Bool
has_bucket (Some bucket) line = any_listed bucket (list_in (codes "apps") line)
has_bucket None line = true

-- ---- the id

-- an id begins with what a line has of one, or the other way round
abbrev pub is_id : (id : List ℕ) → Option (List ℕ) → Bool
is_id id (Some logged) = starts_with nat_eq id logged || starts_with nat_eq logged id
is_id id None = false

abbrev pub has_id : Option (List ℕ) → Data → Bool
has_id (Some id) line = is_id id (text_in (codes "request_id") line)
has_id None line = true

-- ---- all of them

-- a connection with a time, from this address, with an app in this bucket, and with this id
abbrev pub is_of : Machine → Data → Bool
is_of machine line =
    is_connection line && is_some (moment_in line)
    && has_address (option_copied machine.address) line && has_bucket machine.bucket line
    && has_id (option_copied machine.id) line
