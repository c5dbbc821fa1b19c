-- The tokens of a whole text, each with its line; or the line of the first place without a token.
use Rattle.std.specs.Prelude.{◌≡◌, ◌⊎◌, ℕ, zero, suc, ◌+◌, ◌-◌, List, [], ◌∷◌, ◌++◌, Option, Some}
use Rattle.std.specs.Prelude.{None, Result, Ok, Err}
use Rattle.rule_lang.specs.declared.rule_fault.RuleFault.{RuleFault}
use Rattle.rule_lang.specs.declared.rule_fault.RuleFault.TheVariants as fault
use Rattle.rule_lang.specs.declared.rule_fault.RuleFaultKind.TheVariants as kind
use Rattle.rule_lang.specs.declared.lexer.Placed as the_placed
use Rattle.rule_lang.specs.declared.token.Piece.TheVariants.{Blank, LineEnd, Token}
use Rattle.rule_lang.specs.declared.token.Token.TheVariants as token
use Rattle.rule_lang.specs.Tokens as tokens

abbrev pub Placed : Type 0
Placed = the_placed.Placed tokens.Text

abbrev pub Lexed : Type 0
Lexed = Result (List Placed) RuleFault

abbrev pub on : ℕ → tokens.Token → Placed
on l t = record { line = l; token = t }

-- puts these tokens before the others
abbrev pub ahead : List Placed → Lexed → Lexed
ahead ts (Ok us) = Ok (ts ++ us)
ahead ts (Err e) = Err e

-- reads on after a piece of n bytes
abbrev pub after_piece : ℕ → Option tokens.Piece → (ℕ → ℕ → Lexed) → Lexed
after_piece line None next = Err (fault.At line kind.Token)
after_piece line (Some (Blank n)) next = next n line
after_piece line (Some (LineEnd n)) next = next n (line + 1)
after_piece line (Some (Token t n)) next = ahead (on line t ∷ []) (next n line)

-- `passed` bytes still belong to the previous piece; `End` follows all tokens
abbrev pub lexed : (passed line : ℕ) → tokens.Text → Lexed
lexed passed line [] = Ok (on line token.End ∷ [])
lexed (suc n) line (c ∷ rest) = lexed n line rest
lexed zero line (c ∷ rest) =
    after_piece line (tokens.piece_of (c ∷ rest) c rest) (λ n l. lexed (n - 1) l rest)

-- all tokens with their lines, or the first place without a token
abbrev pub tokens_in : tokens.Text → Lexed
tokens_in text = lexed 0 1 text

abbrev pub IsTokenFault : tokens.Text → RuleFault → Type 0
IsTokenFault text e = (e ≡ fault.Memory) ⊎ (tokens_in text ≡ Err e)
