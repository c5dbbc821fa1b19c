-- What a whole head requests: one target is served, by POST, with a body whose length is given (RFC
-- 9112, sections 3 and 6).
use Rattle.std.specs.Prelude.{ℕ, List, ◌++◌, map, filter, codes, nat_eq}
use Rattle.std.specs.Prelude.{Result, Err, Bool, not, ◌||◌, if◌then◌else◌}
use Rattle.std.specs.List.{starts_with, list_any}
use Rattle.std.specs.Str.{bytes_eq, str_eq_ignore_ascii_case}
use Rattle.httparse.specs.Grammar.{RequestHead}
use Rattle.httparse.specs.Spans.{name_and_value}
use Rattle.http_front.specs.declared.post_fault.PostFault.{PostFault}
use Rattle.http_front.specs.declared.post_fault.PostFault.TheVariants as fault
use Rattle.http_front.specs.Length.{content_length}

-- a header line: its name, and its value without the blanks around it
abbrev pub HeaderLine : Type 0
HeaderLine = List ℕ × List ℕ

-- names are compared ignoring ASCII case
abbrev pub is_named : List ℕ → HeaderLine → Bool
is_named name line = str_eq_ignore_ascii_case line.0 name

abbrev pub has_line : List ℕ → List HeaderLine → Bool
has_line name lines = list_any (is_named name) lines

abbrev pub values_of : List ℕ → List HeaderLine → List (List ℕ)
values_of name lines = map (λ (l : HeaderLine). l.1) (filter (is_named name) lines)

-- the target that is served
abbrev pub service : List ℕ
service = codes "/service/update2/json"

-- the target, with or without a query
abbrev pub is_served : List ℕ → Bool
is_served target = bytes_eq target service || starts_with nat_eq target (service ++ codes "?")

-- the length of the body, or the first rule that the head breaks; a body in chunks gives no length
abbrev pub body_length : List ℕ → List ℕ → List HeaderLine → Result ℕ PostFault
body_length target method lines =
    if not (is_served target) then Err fault.Path
    else if not (bytes_eq method (codes "POST")) then Err fault.Method
    else if has_line (codes "transfer-encoding") lines then Err fault.Length
    else content_length (values_of (codes "content-length") lines)

-- the length of the body that a head gives, or the first rule that it breaks
abbrev pub body_length_by : RequestHead → Result ℕ PostFault
body_length_by h = body_length h.target h.method (map name_and_value h.fields)

-- the faults that a whole head may have
abbrev pub IsFaultOfHead : PostFault → Type 0
IsFaultOfHead fault.HeadTooLarge = ⊥
IsFaultOfHead fault.Ended = ⊥
IsFaultOfHead fault.Device = ⊥
IsFaultOfHead fault.Memory = ⊥
IsFaultOfHead e = Unit {0}
