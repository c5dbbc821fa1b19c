-- The members of an object of JSON. A member of another kind than the log's counts as missing.
use Rattle.std.specs.Prelude.{ℕ, List, Bool, true, false, not, ◌==◌}
use Rattle.std.specs.Prelude.{Option, Some, None, option_and_then}
use Rattle.std.specs.Str.{bytes_eq}
use Rattle.serde_json.specs.Data.{Data, Items}
use Rattle.serde_json.specs.Find.{get, as_array, as_bool, as_number, as_str, as_u64}

abbrev pub text_in : List ℕ → Data → Option (List ℕ)
text_in name d = option_and_then as_str (get name d)

abbrev pub number_in : List ℕ → Data → Option ℕ
number_in name d = option_and_then as_u64 (option_and_then as_number (get name d))

abbrev pub flag_in : List ℕ → Data → Option Bool
flag_in name d = option_and_then as_bool (get name d)

abbrev pub list_in : List ℕ → Data → Option Items
list_in name d = option_and_then as_array (get name d)

abbrev pub is_number : ℕ → Option ℕ → Bool
is_number n (Some m) = m == n
is_number n None = false

abbrev pub is_flag : Bool → Option Bool → Bool
is_flag true (Some b) = b
is_flag false (Some b) = not b
is_flag holds None = false

abbrev pub is_text : List ℕ → Option (List ℕ) → Bool
is_text text (Some other) = bytes_eq other text
is_text text None = false
