-- The pieces of a line one by one, and numbers that fit 64 bits.
use Rattle.std.proofs.Common.{◌≡◌, ℕ, suc, ◌+◌, ◌<◌, ◌^◌, List, [], ◌∷◌, ◌++◌}
use Rattle.std.proofs.Common.{take, drop, map, Option, Some, None, Bool, true}
use Rattle.std.proofs.Common.{false, ◌||◌, not, ◌==◌, option_map, refl, sym, ap, ◌∙◌, subst, arith}
use Rattle.std.specs.List.{prefix_len}
use Rattle.lexing.specs.Digits.{number_if_small}
use Rattle.lexing.specs.Letter.{is_word_byte}
use Rattle.bpf_text.specs.declared.token.AsmToken.{AsmToken}
use Rattle.bpf_text.specs.Names.{NameBytes, token_named}
use Rattle.bpf_text.specs.Tokens.{Name, is_blank, is_mark, word_goes_on}
use Rattle.bpf_text.specs.Tokens.{onto_piece, pieces, piece_len, token_of}
use Rattle.bpf_text.specs.Tokens.{tokens_in, tokens_of}

-- a letter, a digit or _ is not a mark, a blank or a semicolon
pub name_plain : (d : ℕ) → is_word_byte d ≡ true
    → (◌==◌ d 59 ≡ false) × (is_blank d ≡ false) × (is_mark d ≡ false)
name_plain d h = (grind arith, grind arith, grind arith)

pub pieces_alone : (c : ℕ) (rest : List ℕ) → (c == 59) ≡ false → is_blank c ≡ false
    → (is_mark c || not (word_goes_on rest)) ≡ true → pieces (c ∷ rest) ≡ (c ∷ []) ∷ pieces rest
pieces_alone c rest semicolon blank alone = simp (semicolon, blank, alone) refl

pub pieces_onto : (c : ℕ) (rest : List ℕ) → (c == 59) ≡ false → is_blank c ≡ false
    → (is_mark c || not (word_goes_on rest)) ≡ false
    → pieces (c ∷ rest) ≡ onto_piece c (pieces rest)
pieces_onto c rest semicolon blank on = simp (semicolon, blank, on) refl

abbrev Run : ℕ → List ℕ → Type 0
Run c rest = pieces (c ∷ rest) ≡ (c ∷ take (prefix_len is_word_byte rest) rest)
    ∷ pieces (drop (prefix_len is_word_byte rest) rest)

run_stops : (d : ℕ) (rest : List ℕ) → is_word_byte d ≡ false
    → prefix_len is_word_byte (d ∷ rest) ≡ 0
run_stops d rest e = simp e refl

run_goes_on : (d : ℕ) (rest : List ℕ) → is_word_byte d ≡ true
    → prefix_len is_word_byte (d ∷ rest) ≡ suc (prefix_len is_word_byte rest)
run_goes_on d rest e =
    let k = prefix_len is_word_byte rest in
    let one : 1 + k ≡ suc k = omega arith in
    simp e one

run_step : (c d : ℕ) (rest : List ℕ)
    → (c == 59) ≡ false → is_blank c ≡ false → is_mark c ≡ false → (b : Bool)
    → is_word_byte d ≡ b → (is_word_byte d ≡ true → Run d rest) → Run c (d ∷ rest)
run_step c d rest semicolon blank mark false e next =
    let P : ℕ → Type 0 =
    λ k. pieces (c ∷ d ∷ rest) ≡ (c ∷ take k (d ∷ rest)) ∷ pieces (drop k (d ∷ rest)) in
    subst P (sym (run_stops d rest e))
    (pieces_alone c (d ∷ rest) semicolon blank (simp (mark, e) refl))
run_step c d rest semicolon blank mark true e next =
    let P : ℕ → Type 0 =
    λ k. pieces (c ∷ d ∷ rest) ≡ (c ∷ take k (d ∷ rest)) ∷ pieces (drop k (d ∷ rest)) in
    subst P (sym (run_goes_on d rest e))
    (pieces_onto c (d ∷ rest) semicolon blank (simp (mark, e) refl) ∙ ap (onto_piece c) (next e))

-- the run of letters, digits and _ after a character that isn't a mark
piece_run : (c : ℕ) (rest : List ℕ)
    → (c == 59) ≡ false → is_blank c ≡ false → is_mark c ≡ false → Run c rest
piece_run c [] semicolon blank mark = pieces_alone c [] semicolon blank (simp mark refl)
piece_run c (d ∷ rest) semicolon blank mark =
    run_step c d rest semicolon blank mark (is_word_byte d) refl
    (λ h. let p = name_plain d h in piece_run d rest p.0 p.1 p.2)

piece_by_mark : (c : ℕ) (rest : List ℕ) (b : Bool)
    → (c == 59) ≡ false → is_blank c ≡ false → is_mark c ≡ b → pieces (c ∷ rest)
    ≡ take (piece_len c rest) (c ∷ rest) ∷ pieces (drop (piece_len c rest) (c ∷ rest))
piece_by_mark c rest true semicolon blank mark =
    let P : ℕ
    → Type 0 = λ k. pieces (c ∷ rest) ≡ take k (c ∷ rest) ∷ pieces (drop k (c ∷ rest)) in
    let one : piece_len c rest ≡ 1 = simp mark refl in
    subst P (sym one) (pieces_alone c rest semicolon blank (simp mark refl))
piece_by_mark c rest false semicolon blank mark =
    let P : ℕ
    → Type 0 = λ k. pieces (c ∷ rest) ≡ take k (c ∷ rest) ∷ pieces (drop k (c ∷ rest)) in
    let k = prefix_len is_word_byte rest in
    let more : 1 + k ≡ suc k = omega arith in
    let len : piece_len c rest ≡ suc k = simp mark more in
    subst P (sym len) (piece_run c rest semicolon blank mark)

-- the piece at the front, and those after it
pub pieces_first : (c : ℕ) (rest : List ℕ) → (c == 59) ≡ false → is_blank c ≡ false
    → pieces (c ∷ rest) ≡ take (piece_len c rest) (c ∷ rest)
    ∷ pieces (drop (piece_len c rest) (c ∷ rest))
pieces_first c rest semicolon blank = piece_by_mark c rest (is_mark c) semicolon blank refl

-- ---- tokens

pub with_piece : (p : List ℕ) (ps : List (List ℕ)) (t : AsmToken Name)
    → token_of p ≡ Some t → (o : Option (List (AsmToken Name))) → tokens_in ps ≡ o
    → tokens_in (p ∷ ps) ≡ option_map (λ ts. t ∷ ts) o
with_piece p ps t e None h = simp (e, h) refl
with_piece p ps t e (Some ts) h = simp (e, h) refl

no_piece : (p : List ℕ) (ps : List (List ℕ)) → token_of p ≡ None → tokens_in (p ∷ ps) ≡ None
no_piece p ps e = simp e refl

tokens_onto : (xs : List (AsmToken NameBytes)) (t : AsmToken NameBytes) (ts : List (AsmToken Name))
    → map token_named (xs ++ (t ∷ [])) ++ ts ≡ map token_named xs ++ (token_named t ∷ ts)
tokens_onto [] t ts = refl
tokens_onto (x ∷ xs) t ts =
    ap (λ (us : List (AsmToken Name)). token_named x ∷ us) (tokens_onto xs t ts)

onto_option : (xs ys : List (AsmToken NameBytes)) (t : AsmToken NameBytes)
    (o : Option (List (AsmToken Name)))
    → ys ≡ xs ++ (t ∷ []) → option_map (λ ts. map token_named xs ++ ts)
    (option_map (λ ts. token_named t ∷ ts) o) ≡ option_map (λ ts. map token_named ys ++ ts) o
onto_option xs ys t None e = refl
onto_option xs ys t (Some ts) e = ap Some
    (sym (ap (λ (zs : List (AsmToken NameBytes)). map token_named zs ++ ts) e
    ∙ tokens_onto xs t ts))

-- one more token of a line whose tokens so far are xs
pub token_more : (line rest p after : List ℕ) (xs ys : List (AsmToken NameBytes))
    (t : AsmToken NameBytes)
    → tokens_of line ≡ option_map (λ ts. map token_named xs ++ ts) (tokens_of rest)
    → pieces rest ≡ p ∷ pieces after → Some (token_named t) ≡ token_of p → ys ≡ xs ++ (t ∷ [])
    → tokens_of line ≡ option_map (λ ts. map token_named ys ++ ts) (tokens_of after)
token_more line rest p after xs ys t h first e more =
    h ∙ ap (λ (o : Option (List (AsmToken Name))). option_map (λ ts. map token_named xs ++ ts) o)
    (ap tokens_in first
    ∙ with_piece p (pieces after) (token_named t) (sym e) (tokens_of after) refl)
    ∙ onto_option xs ys t (tokens_of after) more

pub token_missing : (line rest p after : List ℕ) (xs : List (AsmToken NameBytes))
    → tokens_of line ≡ option_map (λ ts. map token_named xs ++ ts) (tokens_of rest)
    → pieces rest ≡ p ∷ pieces after → None ≡ token_of p → tokens_of line ≡ None
token_missing line rest p after xs h first e =
    h ∙ ap (λ (o : Option (List (AsmToken Name))). option_map (λ ts. map token_named xs ++ ts) o)
    (ap tokens_in first ∙ no_piece p (pieces after) (sym e))

-- ---- numbers

pub small_number : (n : ℕ) → n < 2 ^ 64 → number_if_small n ≡ Some n
small_number n h = grind arith

-- ---- the piece at the front of a text

pub piece_at : (text rest front back : List ℕ) (c n : ℕ) → text ≡ c ∷ rest → (c == 59) ≡ false
    → is_blank c ≡ false → n ≡ piece_len c rest → front ≡ take n text → back ≡ drop n text
    → pieces text ≡ front ∷ pieces back
piece_at text rest front back c n whole semicolon blank len at_front at_back =
    ap pieces whole ∙ pieces_first c rest semicolon blank
    ∙ ap (λ (k : ℕ). take k (c ∷ rest) ∷ pieces (drop k (c ∷ rest))) (sym len)
    ∙ ap (λ (t : List ℕ). take n t ∷ pieces (drop n t)) (sym whole)
    ∙ ap (λ (f : List ℕ). f ∷ pieces (drop n text)) (sym at_front)
    ∙ ap (λ (b : List ℕ). front ∷ pieces b) (sym at_back)
