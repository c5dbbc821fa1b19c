-- Members of an object (RFC 8259, section 4), as the tokens that they are written by.
use Rattle.std.specs.Prelude.{ℕ, ◌-◌, List, [], ◌∷◌, ◌++◌, length, decimal, ◌==◌, if◌then◌else◌}
use Rattle.std.specs.Prelude.{Bool, Option, Some, None}
use Rattle.json.specs.Token.{Token, key, string, number, boolean}
use Rattle.access_log.specs.declared.excerpt.Excerpt.{Excerpt}

abbrev pub text_member : List ℕ → List ℕ → List Token
text_member name text = key name ∷ string text ∷ []

abbrev pub number_member : List ℕ → ℕ → List Token
number_member name n = key name ∷ number (decimal n) ∷ []

abbrev pub flag_member : List ℕ → Bool → List Token
flag_member name holds = key name ∷ boolean holds ∷ []

-- a text, if there is one
abbrev pub optional_member : List ℕ → Option (List ℕ) → List Token
optional_member name (Some text) = text_member name text
optional_member name None = []

-- a number, unless it is 0
abbrev pub count_member : List ℕ → ℕ → List Token
count_member name n = if n == 0 then [] else number_member name n

-- how many bytes of a text aren't in its excerpt
abbrev pub left_out : Excerpt → ℕ
left_out e = e.length - length e.text.now

-- a text that may be cut, and then how many bytes are left out of it
abbrev pub excerpt_members : List ℕ → List ℕ → Excerpt → List Token
excerpt_members name count e = text_member name e.text.now ++ count_member count (left_out e)

-- an excerpt, if there is one
abbrev pub optional_excerpt : List ℕ → List ℕ → Option Excerpt → List Token
optional_excerpt name count (Some e) = excerpt_members name count e
optional_excerpt name count None = []
