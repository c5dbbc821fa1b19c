-- The text of a script: each line has an event, except for those that are skipped.
--   start W APPID BUCKET VERSION
--   step W
--   step W N
--   finish W
--   swap MANIFEST
-- The fields are separated by one blank, and none is empty.
use Rattle.std.specs.Prelude.{◌≡◌, ◌⊎◌, ℕ, List, [], ◌∷◌, codes, Option, Some, None, is_none, Bool}
use Rattle.std.specs.Prelude.{true, false, not, ◌&&◌, ◌==◌, option_and_then, option_map}
use Rattle.std.specs.Prelude.{◌-◌, ◌^◌, if◌then◌else◌}
use Rattle.std.specs.List.{slice_split, before_first, after_first, filter_map, position_from}
use Rattle.std.specs.Str.{IsUtf8, byte, bytes_eq}
use Rattle.std.specs.Str.Lines.{lines}
use Rattle.lexing.specs.Decimal.{decimal_within}
use Rattle.event_script.specs.declared.script_fault.ScriptFault.{ScriptFault}
use Rattle.event_script.specs.declared.script_fault.ScriptFault.TheVariants.{Malformed, Memory}
use Rattle.event_script.specs.declared.script_line.EventLine.{EventLine}
use Rattle.event_script.specs.declared.script_line.EventLine.TheVariants.{Start, Step, Finish, Swap}

-- ---- fields

abbrev pub is_blank : ℕ → Bool
is_blank b = b == byte " "

abbrev pub worker_number : List ℕ → Option ℕ
worker_number field = decimal_within 0 (2 ^ 32 - 1) field

abbrev pub step_count : List ℕ → Option ℕ
step_count field = decimal_within 1 4097 field

abbrev pub bucket_number : List ℕ → Option ℕ
bucket_number field = decimal_within 0 9999 field

abbrev pub text : List ℕ → Option (List ℕ)
text [] = None
text (c ∷ cs) = Some (c ∷ cs)

-- `-` means no version
abbrev pub version_text : List ℕ → Option (Option (List ℕ))
version_text field =
    if bytes_eq field (codes "-") then Some None else option_map (λ v. Some v) (text field)

-- ---- one line

abbrev pub start : (worker appid bucket version : List ℕ) → Option EventLine
start worker appid bucket version =
    option_and_then (λ w. option_and_then (λ b. option_and_then (λ a.
    option_map (λ v. Start w a b v) (version_text version)) (text appid))
    (bucket_number bucket)) (worker_number worker)

abbrev pub with_worker : (word worker : List ℕ) → Option EventLine
with_worker word worker =
    if bytes_eq word (codes "step") then option_map (λ w. Step w None) (worker_number worker)
    else if bytes_eq word (codes "finish") then option_map (λ w. Finish w) (worker_number worker)
    else None

abbrev pub steps : (word worker count : List ℕ) → Option EventLine
steps word worker count =
    if bytes_eq word (codes "step")
    then option_and_then (λ w. option_map (λ n. Step w (Some n)) (step_count count))
    (worker_number worker)
    else None

abbrev pub of_fields : List (List ℕ) → Option EventLine
of_fields (word ∷ worker ∷ []) = with_worker word worker
of_fields (word ∷ worker ∷ count ∷ []) = steps word worker count
of_fields (word ∷ worker ∷ appid ∷ bucket ∷ version ∷ []) =
    if bytes_eq word (codes "start") then start worker appid bucket version else None
of_fields fields = None

-- a manifest is the rest of its line, blanks and all
abbrev pub swap : List ℕ → Option EventLine
swap rest = option_map (λ m. Swap m) (text rest)

-- the event of a line
abbrev pub event_of : List ℕ → Option EventLine
event_of line =
    if bytes_eq (before_first is_blank line) (codes "swap") then swap (after_first is_blank line)
    else of_fields (slice_split is_blank line)

-- ---- all lines

-- a line that is empty or begins with `#` is skipped
abbrev pub is_passed : List ℕ → Bool
is_passed [] = true
is_passed (c ∷ cs) = c == byte "#"

abbrev pub line_event : List ℕ → Option EventLine
line_event line = if is_passed line then None else event_of line

abbrev pub is_malformed : List ℕ → Bool
is_malformed line = not (is_passed line) && is_none (event_of line)

pub record IsLineOf (line : List ℕ) (e : Option EventLine) : Type 0 where
  pub well_formed : is_malformed line ≡ false
  pub event_is : line_event line ≡ e

-- no line is malformed, and these are the events of the lines, in order
pub record AreEventLines (lines : List (List ℕ)) (events : List EventLine) : Type 0 where
  pub well_formed : position_from is_malformed 1 lines ≡ None
  pub events_are : events ≡ filter_map line_event lines

-- the number of the first malformed line, from 1
abbrev pub IsFirstMalformed : List (List ℕ) → ScriptFault → Type 0
IsFirstMalformed lines (Malformed line) = position_from is_malformed 1 lines ≡ Some line
IsFirstMalformed lines Memory = Unit {0}

-- the text is UTF-8, and these are the events of all its lines
pub record IsScript (bytes : List ℕ) (events : List EventLine) : Type 0 where
  pub is_text : IsUtf8 bytes
  pub event_is : AreEventLines (lines bytes) events

-- the first malformed line, or line 1 of bytes that aren't text
abbrev pub IsScriptFault : List ℕ → ScriptFault → Type 0
IsScriptFault bytes Memory = Unit {0}
IsScriptFault bytes (Malformed line) =
    (IsUtf8 bytes × IsFirstMalformed (lines bytes) (Malformed line))
    ⊎ ((¬ IsUtf8 bytes) × (line ≡ 1))
