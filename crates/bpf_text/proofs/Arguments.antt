-- The tokens of each argument in a listing, and what is read from them.
use Rattle.std.proofs.Common.{◌≡◌, ℕ, suc, ◌<◌, ◌^◌, ℤ, pos, negsuc, List, [], ◌∷◌, ◌++◌}
use Rattle.std.proofs.Common.{Option, Some, None, false, option_map, refl, ap, ◌∙◌, append_assoc}
use Rattle.std.specs.Fmt.{signed_decimal}
use Rattle.bpf_insn.specs.declared.reg.Reg.{Reg}
use Rattle.bpf_insn.specs.Program.{slots_moved}
use Rattle.bpf_text.specs.declared.token.Sign.TheVariants.{Absent, Minus, Plus}
use Rattle.bpf_text.specs.declared.token.Figure.{Figure}
use Rattle.bpf_text.specs.declared.token.AsmToken.{AsmToken}
use Rattle.bpf_text.specs.declared.token.AsmToken.TheVariants.{Word, Number, Open, Close}
use Rattle.bpf_text.specs.declared.argument.Argument.{Argument}
use Rattle.bpf_text.specs.declared.argument.Argument.TheVariants as argument
use Rattle.bpf_text.specs.declared.item.Item.{Item}
use Rattle.bpf_text.specs.declared.item.Item.TheVariants as item
use Rattle.bpf_text.specs.Tokens.{Name, word_goes_on, tokens_of}
use Rattle.bpf_text.specs.Items.{Tokens, item_at_front}
use Rattle.bpf_text.specs.Listing.{register_text, with_sign, argument_text}
use Rattle.bpf_text.proofs.Named.{register_is_named}
use Rattle.bpf_text.proofs.Lexing.{front, figure, word_token, open_token, close_token}
use Rattle.bpf_text.proofs.Lexing.{decimal_token, minus_token, plus_token}

-- ---- what is read from each argument

abbrev pub imm_figure : ℤ → Figure
imm_figure (pos n) = figure Absent n
imm_figure (negsuc n) = figure Minus (suc n)

abbrev pub signed_figure : ℤ → Figure
signed_figure (pos n) = figure Plus n
signed_figure (negsuc n) = figure Minus (suc n)

abbrev pub tokens_of_argument : Argument → Tokens
tokens_of_argument (argument.Register r) = Word (register_text r) ∷ []
tokens_of_argument (argument.Imm k) = Number (imm_figure k) ∷ []
tokens_of_argument (argument.Number n) = Number (figure Absent n) ∷ []
tokens_of_argument (argument.Memory r k) =
    Open ∷ Word (register_text r) ∷ Number (signed_figure k) ∷ Close ∷ []
tokens_of_argument (argument.Distance d) = Number (signed_figure (slots_moved d)) ∷ []

abbrev pub item_of_argument : Argument → Item Name
item_of_argument (argument.Register r) = item.Name (register_text r)
item_of_argument (argument.Imm k) = item.Number (imm_figure k)
item_of_argument (argument.Number n) = item.Number (figure Absent n)
item_of_argument (argument.Memory r k) = item.Memory (register_text r) (signed_figure k)
item_of_argument (argument.Distance d) = item.Number (signed_figure (slots_moved d))

-- 64 bits hold the number's magnitude
abbrev pub IsShort : ℤ → Type 0
IsShort (pos n) = n < 2 ^ 64
IsShort (negsuc n) = suc n < 2 ^ 64

abbrev pub HasShort : Argument → Type 0
HasShort (argument.Register r) = Unit {0}
HasShort (argument.Imm k) = IsShort k
HasShort (argument.Number n) = n < 2 ^ 64
HasShort (argument.Memory r k) = IsShort k
HasShort (argument.Distance d) = IsShort (slots_moved d)

-- ---- from its text to its tokens

abbrev pub onto : Tokens → Option Tokens → Option Tokens
onto ts o = option_map (λ us. ts ++ us) o

one_front : (t : AsmToken Name) (o : Option Tokens) → front t o ≡ onto (t ∷ []) o
one_front t None = refl
one_front t (Some ts) = refl

four_front : (a b c d : AsmToken Name) (o : Option Tokens)
    → front a (front b (front c (front d o))) ≡ onto (a ∷ b ∷ c ∷ d ∷ []) o
four_front a b c d None = refl
four_front a b c d (Some ts) = refl

imm_token : (k : ℤ) (rest : List ℕ) → IsShort k → word_goes_on rest ≡ false
    → tokens_of (signed_decimal k ++ rest) ≡ front (Number (imm_figure k)) (tokens_of rest)
imm_token (pos n) rest short ends = decimal_token n rest short ends
imm_token (negsuc n) rest short ends = minus_token (suc n) rest short ends

signed_token : (k : ℤ) (rest : List ℕ) → IsShort k → word_goes_on rest ≡ false
    → tokens_of (with_sign k ++ rest) ≡ front (Number (signed_figure k)) (tokens_of rest)
signed_token (pos n) rest short ends = plus_token n rest short ends
signed_token (negsuc n) rest short ends = minus_token (suc n) rest short ends

sign_ends : (k : ℤ) (rest : List ℕ) → word_goes_on (with_sign k ++ rest) ≡ false
sign_ends (pos n) rest = refl
sign_ends (negsuc n) rest = refl

memory_text : (r : Reg) (k : ℤ) (rest : List ℕ) → argument_text (argument.Memory r k) ++ rest ≡ 91
    ∷ (register_text r ++ (with_sign k ++ (93 ∷ rest)))
memory_text r k rest =
    ap (λ (t : List ℕ). 91 ∷ t)
    (append_assoc (register_text r ++ with_sign k) (93 ∷ []) rest
    ∙ append_assoc (register_text r) (with_sign k) (93 ∷ rest))

pub argument_tokens : (a : Argument) (rest : List ℕ) → HasShort a → word_goes_on rest ≡ false
    → tokens_of (argument_text a ++ rest) ≡ onto (tokens_of_argument a) (tokens_of rest)
argument_tokens (argument.Register r) rest short ends =
    word_token (register_text r) rest (register_is_named r).is_text ends
    ∙ one_front (Word (register_text r)) (tokens_of rest)
argument_tokens (argument.Imm k) rest short ends =
    imm_token k rest short ends ∙ one_front (Number (imm_figure k)) (tokens_of rest)
argument_tokens (argument.Number n) rest short ends =
    decimal_token n rest short ends ∙ one_front (Number (figure Absent n)) (tokens_of rest)
argument_tokens (argument.Distance d) rest short ends =
    signed_token (slots_moved d) rest short ends
    ∙ one_front (Number (signed_figure (slots_moved d))) (tokens_of rest)
argument_tokens (argument.Memory r k) rest short ends =
    ap tokens_of (memory_text r k rest)
    ∙ open_token (register_text r ++ (with_sign k ++ (93 ∷ rest)))
    ∙ ap (front Open) (word_token (register_text r) (with_sign k ++ (93 ∷ rest))
    (register_is_named r).is_text (sign_ends k (93 ∷ rest))
    ∙ ap (front (Word (register_text r))) (signed_token k (93 ∷ rest) short refl
    ∙ ap (front (Number (signed_figure k))) (close_token rest)))
    ∙ four_front Open (Word (register_text r)) (Number (signed_figure k)) Close (tokens_of rest)

-- ---- from its tokens to the operand

pub item_again : (a : Argument) (rest : Tokens)
    → item_at_front (tokens_of_argument a ++ rest) ≡ Some (item_of_argument a, rest)
item_again (argument.Register r) rest = refl
item_again a rest = refl
