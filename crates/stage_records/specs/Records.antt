-- The record of a step: an object of JSON (RFC 8259), in which a file's bytes are in hex.
use Rattle.std.specs.Prelude.{ℕ, ◌^◌, ◌==◌, Bool, true, false, List, [], ◌∷◌, codes, nat_lt}
use Rattle.std.specs.Prelude.{if◌then◌else◌}
use Rattle.std.specs.Prelude.{Option, Some, None, option_and_then, option_map}
use Rattle.std.specs.Result.{result_ok}
use Rattle.hex.specs.Hex.{decode_of}
use Rattle.json_value.specs.Bytes.{json_of}
use Rattle.serde_json.specs.Data.{Data, Items, no_items, item, null}
use Rattle.serde_json.specs.Find.{get, as_array, as_bool, as_number, as_str, as_u64}
use Rattle.stage_records.specs.Steps.{ReplacedFile, StagingStep}
use Rattle.stage_records.specs.declared.record_reader.Facts.{Facts}
use Rattle.stage_records.specs.declared.step.StepAction.{StepAction}
use Rattle.stage_records.specs.declared.step.StepAction.TheVariants.{Halt, HaltRelease, Put}
use Rattle.stage_records.specs.declared.step.StepAction.TheVariants.{Raise, Resume}

-- ---- members

-- the text of this name
abbrev pub text_in : List ℕ → Data → Option (List ℕ)
text_in name d = option_and_then as_str (get name d)

-- the number of this name
abbrev pub number_in : List ℕ → Data → Option ℕ
number_in name d = option_and_then as_u64 (option_and_then as_number (get name d))

-- the number of this name, if it has at most 32 bits
abbrev pub short_in : List ℕ → Data → Option ℕ
short_in name d =
    option_and_then (λ n. if nat_lt n (2 ^ 32) then Some n else None) (number_in name d)

-- the truth of this name
abbrev pub flag_in : List ℕ → Data → Option Bool
flag_in name d = option_and_then as_bool (get name d)

-- ---- files

-- a text of hex digits
abbrev pub bytes_of : Data → Option (List ℕ)
bytes_of d = option_and_then (λ text. result_ok (decode_of text)) (as_str d)

-- null if there was no file
abbrev pub before_of : Data → Option (Option (List ℕ))
before_of null = Some None
before_of d = option_map (λ bytes. Some bytes) (bytes_of d)

-- {"after":"6f6b0a","before":null,"name":"player.rule"}
abbrev pub file_of : Data → Option ReplacedFile
file_of d =
    option_and_then (λ name.
    option_and_then (λ before.
    option_map (λ after. record { name = name; before = before; after = after })
    (option_and_then bytes_of (get (codes "after") d)))
    (option_and_then before_of (get (codes "before") d)))
    (text_in (codes "name") d)

-- all of them, in their order
abbrev pub files_of : Items → Option (List ReplacedFile)
files_of no_items = Some []
files_of (item d ds) =
    option_and_then (λ file. option_map (λ files. file ∷ files) (files_of ds)) (file_of d)

-- ---- a step

-- the first that is there
abbrev pub or_else : {A : Type 0} → Option A → Option A → Option A
or_else (Some x) other = Some x
or_else None other = other

-- {"appid":"player","version":"2.1"}
abbrev pub release_of : Data → Option StepAction
release_of d =
    option_and_then (λ appid. option_map (λ version. HaltRelease appid version)
    (text_in (codes "version") d)) (text_in (codes "appid") d)

-- {"appid":"player","buckets":2500}
abbrev pub raise_of : Data → Option StepAction
raise_of d =
    option_and_then (λ appid. option_map (λ buckets. Raise appid buckets)
    (short_in (codes "buckets") d)) (text_in (codes "appid") d)

-- none without the member, and otherwise its number
abbrev pub share_by : Option Data → Option ℕ → Option (Option ℕ)
share_by None short = Some None
share_by (Some member) short = option_map (λ n. Some n) short

-- a share; nothing if the member of this name isn't a number of at most 32 bits
abbrev pub share_in : List ℕ → Data → Option (Option ℕ)
share_in name d = share_by (get name d) (short_in name d)

-- the same, or {"appid":"player"} for all that the app had before its halt
abbrev pub resume_of : Data → Option StepAction
resume_of d =
    option_and_then (λ appid. option_map (λ share. Resume appid share)
    (share_in (codes "buckets") d)) (text_in (codes "appid") d)

-- {"halt":"player"}, {"halt_release":{..}}, {"raise":{..}}, {"resume":{..}} or
-- {"put":"/srv/checkout/current.toml"}
abbrev pub action_of : Data → Option StepAction
action_of d =
    or_else (option_map (λ appid. Halt appid) (text_in (codes "halt") d)) (
    or_else (option_and_then release_of (get (codes "halt_release") d)) (
    or_else (option_and_then raise_of (get (codes "raise") d)) (
    or_else (option_and_then resume_of (get (codes "resume") d))
    (option_map (λ manifest. Put manifest) (text_in (codes "put") d)))))

abbrev pub is_two : Option ℕ → Bool
is_two None = false
is_two (Some n) = n == 2

-- 2; a record of version 1 names none, and has neither `user` nor `because`
abbrev pub is_known_version : Option Data → Bool
is_known_version None = true
is_known_version (Some d) = is_two (option_and_then as_u64 (as_number d))

-- the members besides the texts, the action and the files
abbrev pub facts_of : Data → Option Facts
facts_of d =
    option_and_then (λ number.
    option_and_then (λ time.
    option_map (λ undone. record { number = number; time = time; is_undone = undone })
    (flag_in (codes "undone") d)) (number_in (codes "time") d)) (short_in (codes "number") d)

-- the member `action`
abbrev pub action_in : Data → Option StepAction
action_in d = option_and_then action_of (get (codes "action") d)

-- the member `files`
abbrev pub files_in : Data → Option (List ReplacedFile)
files_in d = option_and_then files_of (option_and_then as_array (get (codes "files") d))

-- {"action":{..},"because":"crash at start","files":[..],"number":3,"time":1764340200,
-- "undone":false,"user":"anna","version":2}
abbrev pub step_of : Data → Option StagingStep
step_of d = if is_known_version (get (codes "version") d) then
    option_and_then (λ facts.
    option_and_then (λ action.
    option_map (λ files. record {
      number = facts.number;
      time = facts.time;
      user = text_in (codes "user") d;
      because = text_in (codes "because") d;
      action = action;
      files = files;
      is_undone = facts.is_undone;
    }) (files_in d)) (action_in d)) (facts_of d)
    else None

-- the step that the bytes of a record spell
abbrev pub step_in : List ℕ → Option StagingStep
step_in bytes = option_and_then step_of (json_of bytes)
