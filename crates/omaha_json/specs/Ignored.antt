-- Members of an app that exist, and count as absent, since they are of another kind.
use Rattle.std.specs.Prelude.{List, ℕ, codes, Bool, false, Option, Some, None, is_none}
use Rattle.std.specs.Prelude.{option_and_then}
use Rattle.serde_json.specs.Data.{Data}
use Rattle.serde_json.specs.Find.{get, as_number, as_str, as_u64}

-- a member exists, and isn't a text
abbrev pub is_not_text : Option Data → Bool
is_not_text (Some d) = is_none (as_str d)
is_not_text None = false

-- the member of this name exists, and isn't a text; null isn't one
abbrev pub ignores_text : List ℕ → Data → Bool
ignores_text name app = is_not_text (get name app)

-- a member exists, and isn't a whole number of at least 0 that fits 64 bits
abbrev pub is_not_number : Option Data → Bool
is_not_number (Some d) = is_none (option_and_then as_u64 (as_number d))
is_not_number None = false

-- `installdate` exists, and isn't such a number
abbrev pub ignores_installdate : Data → Bool
ignores_installdate app = is_not_number (get (codes "installdate") app)
