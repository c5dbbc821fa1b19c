-- The tokens of a listing's words, numbers and marks.
use Rattle.std.proofs.Common.{◌≡◌, ℕ, ◌<◌, ◌≤◌, ◌^◌, List, [], ◌∷◌, ◌++◌, length}
use Rattle.std.proofs.Common.{Option, Some, Bool, true, false, ◌&&◌, not, ◌==◌, nat_lt}
use Rattle.std.proofs.Common.{nat_le, option_map, slice_index_or, refl, ap, ◌∙◌, arith}
use Rattle.std.proofs.lemmas.Fmt.{decimal_is_IsNumeral}
use Rattle.std.proofs.lemmas.Str.Parse.{digit_from_value}
use Rattle.std.specs.Fmt.{decimal}
use Rattle.std.specs.Char.{digit_value}
use Rattle.std.specs.List.{list_all}
use Rattle.std.specs.Str.Parse.{digits_value, AllDigits, IsNumeral}
use Rattle.bpf_text.specs.declared.token.Sign.{Sign}
use Rattle.bpf_text.specs.declared.token.Sign.TheVariants.{Absent, Minus, Plus}
use Rattle.bpf_text.specs.declared.token.Figure.{Figure}
use Rattle.bpf_text.specs.declared.token.AsmToken.{AsmToken}
use Rattle.bpf_text.specs.declared.token.AsmToken.TheVariants.{Word, Number, Comma, Open, Close}
use Rattle.lexing.specs.Digits.{number_if_small}
use Rattle.lexing.specs.Letter.{is_letter, is_word_byte}
use Rattle.bpf_text.specs.Tokens.{Name, is_blank, is_mark}
use Rattle.bpf_text.specs.Tokens.{word_goes_on, pieces, onto_piece, token_of, tokens_in}
use Rattle.bpf_text.specs.Tokens.{tokens_of, is_numeral, numeral, unsigned_number}
use Rattle.bpf_text.proofs.Named.{is_word_text}
use Rattle.bpf_text.proofs.Tokenizing.{name_plain, pieces_alone}
use Rattle.bpf_text.proofs.Tokenizing.{pieces_onto, with_piece, small_number}

pub and_both : (a b : Bool) → (a && b) ≡ true → (a ≡ true) × (b ≡ true)
and_both true b h = (refl, h)
and_both false b h = (h, cc)

and_no : (b : Bool) → (b && false) ≡ false
and_no true = refl
and_no false = refl

-- ---- one piece

piece_whole : (c : ℕ) (w rest : List ℕ) → (c == 59) ≡ false → is_blank c ≡ false
    → is_mark c ≡ false → list_all is_word_byte w ≡ true → word_goes_on rest ≡ false
    → pieces ((c ∷ w) ++ rest) ≡ (c ∷ w) ∷ pieces rest
piece_whole c [] rest semicolon blank mark names ends =
    pieces_alone c rest semicolon blank (simp (mark, ends) refl)
piece_whole c (d ∷ w) rest semicolon blank mark names ends =
    let both = and_both (is_word_byte d) (list_all is_word_byte w) names in
    let plain = name_plain d both.0 in
    pieces_onto c ((d ∷ w) ++ rest) semicolon blank (simp (mark, both.0) refl)
    ∙ ap (onto_piece c) (piece_whole d w rest plain.0 plain.1 plain.2 both.1 ends)

abbrev pub front : AsmToken Name → Option (List (AsmToken Name)) → Option (List (AsmToken Name))
front t o = option_map (λ ts. t ∷ ts) o

token_piece : (c : ℕ) (w rest : List ℕ) (t : AsmToken Name)
    → (c == 59) ≡ false → is_blank c ≡ false
    → is_mark c ≡ false → list_all is_word_byte w ≡ true → word_goes_on rest ≡ false
    → token_of (c ∷ w) ≡ Some t → tokens_of ((c ∷ w) ++ rest) ≡ front t (tokens_of rest)
token_piece c w rest t semicolon blank mark names ends is =
    ap tokens_in (piece_whole c w rest semicolon blank mark names ends)
    ∙ with_piece (c ∷ w) (pieces rest) t is (tokens_of rest) refl

-- ---- words and marks

pub word_token : (w rest : List ℕ) → is_word_text w ≡ true → word_goes_on rest ≡ false
    → tokens_of (w ++ rest) ≡ front (Word w) (tokens_of rest)
word_token [] rest is ends = absurd (false_is_true is)
  where
    false_is_true : ◌≡◌ {A = Bool} false true → ⊥
    false_is_true h = cc
word_token (c ∷ w) rest is ends =
    let letter =
    and_both (is_letter c) (list_all is_word_byte w && nat_le (length (c ∷ w)) 32) is in
    let parts = and_both (list_all is_word_byte w) (nat_le (length (c ∷ w)) 32) letter.1 in
    let named : is_word_byte c ≡ true = simp letter.0 refl in
    let plain = name_plain c named in
    token_piece c w rest (Word (c ∷ w)) plain.0 plain.1 plain.2 parts.0 ends
    (simp (plain.2, letter.0, parts.1) refl)

pub comma_token : (rest : List ℕ) → tokens_of (44 ∷ rest) ≡ front Comma (tokens_of rest)
comma_token rest = with_piece (44 ∷ []) (pieces rest) Comma refl (tokens_of rest) refl

pub open_token : (rest : List ℕ) → tokens_of (91 ∷ rest) ≡ front Open (tokens_of rest)
open_token rest = with_piece (91 ∷ []) (pieces rest) Open refl (tokens_of rest) refl

pub close_token : (rest : List ℕ) → tokens_of (93 ∷ rest) ≡ front Close (tokens_of rest)
close_token rest = with_piece (93 ∷ []) (pieces rest) Close refl (tokens_of rest) refl

-- ---- numbers

record IsDigit (c : ℕ) : Type 0 where
  name : is_word_byte c ≡ true
  letter : is_letter c ≡ false
  minus : (c == 45) ≡ false
  plus : (c == 43) ≡ false
  x : (c == 120) ≡ false
  test : nat_lt (digit_value c) 10 ≡ true

range_digit : (c : ℕ) → 48 ≤ c → c ≤ 57 → digit_value c < 10 → IsDigit c
range_digit c low high value = record {
  name = grind arith;
  letter = grind arith;
  minus = grind arith;
  plus = grind arith;
  x = grind arith;
  test = grind arith;
}

is_digit : (c : ℕ) → digit_value c < 10 → IsDigit c
is_digit c value = let r = digit_from_value c value in range_digit c r.0 r.1 value

pub digit_names : (ds : List ℕ) → AllDigits 10 ds → list_all is_word_byte ds ≡ true
digit_names [] h = refl
digit_names (c ∷ ds) h =
    let d = is_digit c h.0 in let e : is_word_byte c ≡ true = d.name in simp e (digit_names ds h.1)

digit_tests : (ds : List ℕ) → AllDigits 10 ds → list_all (λ c. nat_lt (digit_value c) 10) ds ≡ true
digit_tests [] h = refl
digit_tests (c ∷ ds) h =
    let d = is_digit c h.0 in
    let e : nat_lt (digit_value c) 10 ≡ true = d.test in simp e (digit_tests ds h.1)

abbrev pub figure : Sign → ℕ → Figure
figure s n = record { sign = s; magnitude = Some n }

numeral_is : (s : Sign) (ds : List ℕ) (n : ℕ) → IsNumeral 10 ds → digits_value 10 ds ≡ n
    → n < 2 ^ 64 → numeral s 10 ds ≡ Some (Number (figure s n))
numeral_is s [] n h value small = absurd (omega (arith, h.0))
numeral_is s (c ∷ ds) n h value small =
    let some : (length (c ∷ ds) == 0) ≡ false = grind arith in
    let test : is_numeral 10 (c ∷ ds) ≡ true =
    ap (λ (b : Bool). not b && list_all (λ c. nat_lt (digit_value c) 10) (c ∷ ds)) some
    ∙ digit_tests (c ∷ ds) h.1 in
    let number : number_if_small (digits_value 10 (c ∷ ds)) ≡ Some n =
    ap number_if_small value ∙ small_number n small in
    simp test (ap (λ (m : Option ℕ). Some (Number (record { sign = s; magnitude = m }))) number)

no_x : (ds : List ℕ) → AllDigits 10 ds → (slice_index_or ds 0 0 == 120) ≡ false
no_x [] h = refl
no_x (c ∷ ds) h = (is_digit c h.0).x

unsigned_is : (c : ℕ) (ds : List ℕ) → AllDigits 10 ds
    → unsigned_number (c ∷ ds) ≡ numeral Absent 10 (c ∷ ds)
unsigned_is c ds h =
    let test : ((slice_index_or (c ∷ ds) 0 0 == 48) && (slice_index_or (c ∷ ds) 1 0 == 120))
    ≡ false = ap (λ (b : Bool). (c == 48) && b) (no_x ds h) ∙ and_no (c == 48) in
    simp test refl

numeral_token : (ds rest : List ℕ) (n : ℕ)
    → IsNumeral 10 ds → digits_value 10 ds ≡ n → n < 2 ^ 64 → word_goes_on rest ≡ false
    → tokens_of (ds ++ rest) ≡ front (Number (figure Absent n)) (tokens_of rest)
numeral_token [] rest n h value small ends = absurd (omega (arith, h.0))
numeral_token (c ∷ ds) rest n h value small ends =
    let d = is_digit c h.1.0 in
    let letter : is_letter c ≡ false = d.letter in
    let minus : (c == 45) ≡ false = d.minus in
    let plus : (c == 43) ≡ false = d.plus in
    let plain = name_plain c d.name in
    let is : token_of (c ∷ ds) ≡ unsigned_number (c ∷ ds) =
    simp (plain.2, letter, minus, plus) refl in
    token_piece c ds rest (Number (figure Absent n)) plain.0 plain.1 plain.2
    (digit_names ds h.1.1) ends
    (is ∙ unsigned_is c ds h.1.1 ∙ numeral_is Absent (c ∷ ds) n h value small)

pub decimal_token : (n : ℕ) (rest : List ℕ) → n < 2 ^ 64 → word_goes_on rest ≡ false
    → tokens_of (decimal n ++ rest) ≡ front (Number (figure Absent n)) (tokens_of rest)
decimal_token n rest small ends =
    let h = decimal_is_IsNumeral n small in numeral_token (decimal n) rest n h.0 h.1 small ends

pub minus_token : (n : ℕ) (rest : List ℕ) → n < 2 ^ 64 → word_goes_on rest ≡ false
    → tokens_of ((45 ∷ decimal n) ++ rest) ≡ front (Number (figure Minus n)) (tokens_of rest)
minus_token n rest small ends =
    let h = decimal_is_IsNumeral n small in
    token_piece 45 (decimal n) rest (Number (figure Minus n)) refl refl refl
    (digit_names (decimal n) h.0.1) ends (numeral_is Minus (decimal n) n h.0 h.1 small)

pub plus_token : (n : ℕ) (rest : List ℕ) → n < 2 ^ 64 → word_goes_on rest ≡ false
    → tokens_of ((43 ∷ decimal n) ++ rest) ≡ front (Number (figure Plus n)) (tokens_of rest)
plus_token n rest small ends =
    let h = decimal_is_IsNumeral n small in
    token_piece 43 (decimal n) rest (Number (figure Plus n)) refl refl refl
    (digit_names (decimal n) h.0.1) ends (numeral_is Plus (decimal n) n h.0 h.1 small)
