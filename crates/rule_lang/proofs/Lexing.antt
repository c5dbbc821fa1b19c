-- The tokens of a text, read piece by piece.
use Rattle.std.proofs.Common.{◌≡◌, ℕ, suc, zero, ◌+◌, ◌-◌, ◌≤◌, List, [], ◌∷◌, ◌++◌, length, drop}
use Rattle.std.proofs.Common.{Option, Some, None, Ok, Err, refl, sym, ap, ◌∙◌, arith}
use Rattle.std.proofs.Common.{append_assoc, length-drop}
use Rattle.rule_lang.specs.declared.rule_fault.RuleFault.TheVariants as fault
use Rattle.rule_lang.specs.declared.rule_fault.RuleFaultKind.TheVariants as kind
use Rattle.rule_lang.specs.declared.token.Piece.TheVariants.{Blank, LineEnd, Token}
use Rattle.rule_lang.specs.declared.token.Token.TheVariants as token
use Rattle.rule_lang.specs.Lexed.{Placed, Lexed, on, ahead, after_piece, lexed}
use Rattle.rule_lang.specs.Tokens as tokens

-- the remaining bytes of the previous piece can be dropped
passed_over : (n line : ℕ) (s : List ℕ) → lexed n line s ≡ lexed 0 line (drop n s)
passed_over zero line [] = refl
passed_over (suc n) line [] = refl
passed_over zero line (c ∷ rest) = refl
passed_over (suc n) line (c ∷ rest) = passed_over n line rest

ahead_twice : (ts us : List Placed) (l : Lexed) → ahead ts (ahead us l) ≡ ahead (ts ++ us) l
ahead_twice ts us (Ok vs) = ap (λ (xs : List Placed). Ok xs) (sym (append_assoc ts us vs))
ahead_twice ts us (Err e) = refl

-- reading a text that begins with a piece
pub first_piece : (all rest : List ℕ) (c line : ℕ) (o : Option tokens.Piece) → all ≡ c ∷ rest
    → o ≡ tokens.piece_of all c rest → lexed 0 line all ≡ after_piece line o (λ n l. lexed (n -
    1) l rest)
first_piece all rest c line o whole is =
    ap (lexed 0 line) whole
    ∙ ap (λ (s : List ℕ). after_piece line (tokens.piece_of s c rest) (λ n l. lexed (n - 1) l
    rest)) (sym whole)
    ∙ ap (λ (p : Option tokens.Piece). after_piece line p (λ n l. lexed (n - 1) l rest)) (sym is)

behind_is : (n line : ℕ) (rest back : List ℕ) → back ≡ drop (n - 1) rest
    → lexed (n - 1) line rest ≡ lexed 0 line back
behind_is n line rest back e = passed_over (n - 1) line rest ∙ ap (lexed 0 line) (sym e)

pub blank_step : (text all rest back : List ℕ) (ts : List Placed) (c n line : ℕ)
    → lexed 0 1 text ≡ ahead ts (lexed 0 line all) → all ≡ c ∷ rest
    → Some (Blank n) ≡ tokens.piece_of all c rest → back ≡ drop (n - 1) rest
    → lexed 0 1 text ≡ ahead ts (lexed 0 line back)
blank_step text all rest back ts c n line so_far whole is e =
    so_far ∙ ap (ahead ts) (first_piece all rest c line (Some (Blank n)) whole is
    ∙ behind_is n line rest back e)

pub line_step : (text all rest back : List ℕ) (ts : List Placed) (c n line : ℕ)
    → lexed 0 1 text ≡ ahead ts (lexed 0 line all) → all ≡ c ∷ rest
    → Some (LineEnd n) ≡ tokens.piece_of all c rest → back ≡ drop (n - 1) rest
    → lexed 0 1 text ≡ ahead ts (lexed 0 (line + 1) back)
line_step text all rest back ts c n line so_far whole is e =
    so_far ∙ ap (ahead ts) (first_piece all rest c line (Some (LineEnd n)) whole is
    ∙ behind_is n (line + 1) rest back e)

pub token_step : (text all rest back : List ℕ) (ts us : List Placed) (t : tokens.Token) (c n line
    : ℕ) → lexed 0 1 text ≡ ahead ts (lexed 0 line all) → all ≡ c ∷ rest
    → Some (Token t n) ≡ tokens.piece_of all c rest → back ≡ drop (n - 1) rest
    → us ≡ ts ++ (on line t ∷ []) → lexed 0 1 text ≡ ahead us (lexed 0 line back)
token_step text all rest back ts us t c n line so_far whole is e more =
    so_far
    ∙ ap (ahead ts) (first_piece all rest c line (Some (Token t n)) whole is
    ∙ ap (ahead (on line t ∷ [])) (behind_is n line rest back e))
    ∙ ahead_twice ts (on line t ∷ []) (lexed 0 line back)
    ∙ ap (λ (xs : List Placed). ahead xs (lexed 0 line back)) (sym more)

pub no_token : (text all rest : List ℕ) (ts : List Placed) (c line : ℕ)
    → lexed 0 1 text ≡ ahead ts (lexed 0 line all) → all ≡ c ∷ rest
    → None ≡ tokens.piece_of all c rest → lexed 0 1 text ≡ Err (fault.At line kind.Token)
no_token text all rest ts c line so_far whole is =
    so_far ∙ ap (ahead ts) (first_piece all rest c line None whole is)

is_empty : (xs : List ℕ) → length xs ≡ 0 → xs ≡ []
is_empty [] h = refl
is_empty (x ∷ xs) h = absurd (omega (arith, h))

pub at_end : (text all : List ℕ) (ts us : List Placed) (line : ℕ)
    → lexed 0 1 text ≡ ahead ts (lexed 0 line all) → length all ≡ 0
    → us ≡ ts ++ (on line token.End ∷ []) → lexed 0 1 text ≡ Ok us
at_end text all ts us line so_far empty more =
    so_far ∙ ap (λ (s : List ℕ). ahead ts (lexed 0 line s)) (is_empty all empty)
    ∙ ap (λ (xs : List Placed). Ok xs) (sym more)

-- each new line uses up a byte
pub fewer : (all rest back : List ℕ) (c n line most : ℕ) → line + length all ≤ most
    → all ≡ c ∷ rest → back ≡ drop (n - 1) rest → line + 1 + length back ≤ most
fewer all rest back c n line most h whole e =
    let size : length all ≡ length rest + 1 = ap length whole ∙ omega arith in
    let less : length back ≡ length rest - (n - 1) = ap length e ∙ length-drop (n - 1) rest in
    omega (arith, h, size, less)
