-- The attributes of one app of a request at a moment: its context, and its texts by number.
use Rattle.std.specs.Prelude.{ℕ, ◌+◌, ◌≤◌, All, List, [], ◌∷◌, length, replicate}
use Rattle.std.specs.Prelude.{Bool, nat_le, Option, Some, None, is_some}
use Rattle.std.specs.Prelude.{option_and_then, unwrap_or, if◌then◌else◌}
use Rattle.attrs.specs.Context.{Context, updatecheck, version_known, unknown_day}
use Rattle.attrs.specs.Version.{version_of}

-- the texts in their order: 0 appid, 1 version, 2 brand, 3 ap, 4 lang, 5 cohort, 6 platform
pub record Attributes : Type 0 where
  pub context : Context
  pub texts : List (List ℕ)

-- an absent text, or one over 1024 bytes, is kept as the empty one, so all are short
abbrev pub kept_text : Option (List ℕ) → List ℕ
kept_text (Some text) = if nat_le (length text) 1024 then text else []
kept_text None = []

abbrev pub AreShort : List (List ℕ) → Type 0
AreShort texts = All (λ text. length text ≤ 1024) texts

abbrev pub plain_flags : Bool → ℕ
plain_flags has_version = updatecheck + (if has_version then version_known else 0)

-- an app that requests an update on day 0 at second 0
abbrev pub plain_context : (version : Option (List ℕ)) (bucket : ℕ) → Context
plain_context version bucket = let numbers = option_and_then version_of version in record {
  version = unwrap_or numbers (replicate 4 0);
  bucket = bucket;
  flags = plain_flags (is_some numbers);
  install_day = unknown_day;
  today = 0;
  seconds = 0;
}

-- such an app, with only these texts
abbrev pub plain : (appid : List ℕ) (version : Option (List ℕ)) (bucket : ℕ) → Attributes
plain appid version bucket = record {
  context = plain_context version bucket;
  texts = kept_text (Some appid) ∷ kept_text version ∷ replicate 5 [];
}
