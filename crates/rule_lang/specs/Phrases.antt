-- Phrases: sequences of tokens, some of them optional, as the grammar writes them, and what each of
-- their places accepts.
use Rattle.std.specs.Prelude.{ℕ, ◌+◌, List, [], ◌∷◌, Result, Ok, Err}
use Rattle.std.specs.Prelude.{Bool, true, false, if◌then◌else◌}
use Rattle.std.specs.Str.{bytes_eq}
use Rattle.rule_lang.specs.declared.rule_fault.RuleFault.{RuleFault}
use Rattle.rule_lang.specs.declared.rule_fault.RuleFault.TheVariants as fault
use Rattle.rule_lang.specs.declared.rule_fault.RuleFaultKind.TheVariants as kind
use Rattle.rule_lang.specs.declared.keyword.Keyword.TheVariants as keyword
use Rattle.rule_lang.specs.declared.phrase.Want.{Want}
use Rattle.rule_lang.specs.declared.phrase.Want.TheVariants as want
use Rattle.rule_lang.specs.declared.token.Token.TheVariants as token
use Rattle.rule_lang.specs.Lexed.{Placed}
use Rattle.rule_lang.specs.Tokens.{Token}
use Rattle.rule_lang.specs.Words.{same_keyword, modulus_word}

-- ---- phrases

-- what comes next: nothing; a token; or an optional part, by its first token, with what follows if
-- the part is given and if it isn't
pub data Phrase : Type 0 where
  Ends : Phrase
  Needs : Want → Phrase → Phrase
  Maybe : Want → (given without : Phrase) → Phrase

-- the places of a phrase; `[ "(" num ")" ]` and `[ "mod" num ]` are one place each
abbrev pub phrase_of : List Want → Phrase
phrase_of [] = Ends
phrase_of (want.Salt ∷ ws) =
    Maybe want.Salt (Needs want.Number (Needs want.Close (phrase_of ws))) (phrase_of ws)
phrase_of (want.Modulus ∷ ws) =
    Maybe want.Modulus (Needs want.Number (phrase_of ws)) (phrase_of ws)
phrase_of (w ∷ ws) = Needs w (phrase_of ws)

-- the fewest tokens of a phrase
abbrev pub fewest_at : Want → ℕ
fewest_at want.Salt = 0
fewest_at want.Modulus = 0
fewest_at w = 1

abbrev pub fewest : List Want → ℕ
fewest [] = 0
fewest (w ∷ ws) = fewest_at w + fewest ws

-- "count" name "[" num "]" ";"
abbrev pub count_phrase : Phrase
count_phrase =
    phrase_of (
    want.Keyword keyword.Count ∷ want.Name ∷ want.OpenBracket ∷ want.Number
    ∷ want.CloseBracket ∷ want.Semicolon ∷ []
    )

-- "offer" num ";"
abbrev pub offer_phrase : Phrase
offer_phrase = phrase_of (want.Keyword keyword.Offer ∷ want.Number ∷ want.Semicolon ∷ [])

-- "otherwise" "none" ";", and the text's end
abbrev pub otherwise_phrase : Phrase
otherwise_phrase =
    phrase_of (
    want.Keyword keyword.Otherwise ∷ want.Keyword keyword.None ∷ want.Semicolon ∷ want.End ∷ []
    )

-- ---- accepted tokens

-- whether a token may come at a place, or begin it if the place is an optional part
abbrev pub takes : Want → Token → Bool
takes (want.Keyword k) (token.Keyword l) = same_keyword k l
takes want.Name (token.Name w) = true
takes want.Attribute (token.Name w) = true
takes want.Attribute (token.Keyword k) = same_keyword k keyword.Version
takes want.Number (token.Number w) = true
takes want.Version (token.Number w) = true
takes want.Version (token.Version w) = true
takes want.Text (token.Text w) = true
takes want.Comparison (token.Comparison r) = true
takes want.Salt token.Open = true
takes want.Modulus (token.Name w) = bytes_eq w modulus_word
takes want.Semicolon token.Semicolon = true
takes want.Comma token.Comma = true
takes want.OpenBracket token.OpenBracket = true
takes want.CloseBracket token.CloseBracket = true
takes want.Open token.Open = true
takes want.Close token.Close = true
takes want.End token.End = true
takes w t = false

-- the fault of a token with which no rule continues
abbrev pub misplaced : (line : ℕ) → RuleFault
misplaced line = fault.At line kind.Shape

-- the tokens after a phrase, or its first misplaced token; an optional part is present if its first
-- token is. `End` is the last token, and no phrase continues after it.
abbrev pub tokens_after : Phrase → List Placed → Result (List Placed) RuleFault
tokens_after Ends ts = Ok ts
tokens_after (Needs w ws) [] = Err (misplaced 0)
tokens_after (Needs w ws) (t ∷ ts) = if takes w t.token then tokens_after ws ts else Err
    (misplaced t.line)
tokens_after (Maybe w given without) [] = Err (misplaced 0)
tokens_after (Maybe w given without) (t ∷ ts) =
    if takes w t.token then tokens_after given ts else tokens_after without (t ∷ ts)
