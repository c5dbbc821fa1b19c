-- A listing with remarks assembles to the bytes of its instructions.
use Rattle.std.proofs.Common.{◌≡◌, ℕ, List, [], ◌∷◌, ◌++◌, map, Ok}
use Rattle.std.proofs.Common.{Bool, true, false, ◌&&◌, ◌||◌, ◌==◌, nat_le}
use Rattle.std.proofs.Common.{refl, ap, ◌∙◌, append_assoc, arith}
use Rattle.std.proofs.lemmas.List.Folds.{list_all-append}
use Rattle.std.specs.List.{AllByRecursion}
use Rattle.bpf_insn.specs.Spelling.{IsEncodable}
use Rattle.bpf_insn.specs.Program.{encodings}
use Rattle.bpf_text.specs.Assembly.{assembly_of, assembly_of_lines}
use Rattle.bpf_text.specs.Lines.{Line, lines_in, read_line, line_if_tokens}
use Rattle.bpf_text.specs.Remarks.{is_blank_or_comment, IsRemark, RemarkedInsn}
use Rattle.bpf_text.specs.Remarks.{remarked_listing, insns_of, RemarksAreSkipped}
use Rattle.bpf_text.specs.Tables.{tables}
use Rattle.lexing.specs.Letter.{is_word_byte}
use Rattle.bpf_text.specs.Tokens.{is_blank, word_goes_on}
use Rattle.bpf_text.specs.Tokens.{pieces, tokens_in}
use Rattle.bpf_text.proofs.Back.{is_plain, plain_line, line_of_plain, lines_assemble}
use Rattle.bpf_text.proofs.Exact.{by_tables}
use Rattle.bpf_text.proofs.Rereading.{line_text, as_line, line_again, bare_is}

-- ---- a remark has no pieces, and ends the word before it

blank_no_word : (c : ℕ) → is_blank c ≡ true → is_word_byte c ≡ false
blank_no_word c h = grind arith

skipped_front : (c : ℕ) (b : Bool) → ((c == 59) || (is_blank c && b)) ≡ true → (c == 59) ≡ false
    → (is_blank c ≡ true) × (b ≡ true)
skipped_front c true h other = (grind (arith, h, other), refl)
skipped_front c false h other = absurd (grind (arith, h, other))

no_pieces : (r : List ℕ) → is_blank_or_comment r ≡ true → pieces r ≡ []
no_pieces [] h = refl
no_pieces (c ∷ r) h = by_case (c == 59) refl (no_pieces r)
  where
    by_case : (b : Bool) → (c == 59) ≡ b → (is_blank_or_comment r ≡ true → pieces r ≡ [])
        → pieces (c ∷ r) ≡ []
    by_case true e rest = simp e refl
    by_case false e rest =
        let both = skipped_front c (is_blank_or_comment r) h e in
        let blank = both.0 in
        simp (e, blank) (rest both.1)

ends_word : (r : List ℕ) → is_blank_or_comment r ≡ true → word_goes_on r ≡ false
ends_word [] h = refl
ends_word (c ∷ r) h = by_case (c == 59) refl
  where
    by_case : (b : Bool) → (c == 59) ≡ b → is_word_byte c ≡ false
    by_case true e = grind (arith, e)
    by_case false e = blank_no_word c (skipped_front c (is_blank_or_comment r) h e).0

goes_on_same : (xs r : List ℕ) → is_blank_or_comment r ≡ true
    → word_goes_on (xs ++ r) ≡ word_goes_on xs
goes_on_same [] r h = ends_word r h
goes_on_same (c ∷ xs) r h = refl

pieces_same : (xs r : List ℕ) → is_blank_or_comment r ≡ true → pieces (xs ++ r) ≡ pieces xs
pieces_same [] r h = no_pieces r h
pieces_same (c ∷ xs) r h =
    let on = goes_on_same xs r h in
    let rest = pieces_same xs r h in
    rw (on, rest) refl

read_same : (xs r : List ℕ) → is_blank_or_comment r ≡ true
    → read_line tables (xs ++ r) ≡ read_line tables xs
unfolding read_line
read_same xs r h = ap (λ ps. line_if_tokens tables (tokens_in ps)) (pieces_same xs r h)

-- ---- line by line

plain_both : (xs ys : List ℕ) → is_plain xs ≡ true → is_plain ys ≡ true
    → is_plain (xs ++ ys) ≡ true
plain_both xs ys h k =
    list_all-append (λ c. nat_le 32 c) xs ys ∙ ap (λ (b : Bool). b && is_plain ys) h ∙ k

line_lines : (t r rest : List ℕ) → is_plain t ≡ true → IsRemark r
    → lines_in tables (t ++ r ++ (10 ∷ []) ++ rest) ≡ read_line tables t ∷ lines_in tables rest
line_lines t r rest plain remark =
    let text : t ++ r ++ (10 ∷ []) ++ rest ≡ (t ++ r) ++ (10 ∷ rest) =
    append_assoc (t ++ r) (10 ∷ []) rest in
    ap (lines_in tables) text
    ∙ ap (map (read_line tables)) (line_of_plain (t ++ r) rest (plain_both t r plain remark.plain))
    ∙ ap (λ (l : Line). l ∷ lines_in tables rest) (read_same t r remark.skipped)

lines_remarked : (ls : List RemarkedInsn) → AllByRecursion IsEncodable (insns_of ls)
    → AllByRecursion (λ l. IsRemark l.remark) ls
    → lines_in tables (remarked_listing ls) ≡ map as_line (insns_of ls)
lines_remarked [] all remarks = refl
lines_remarked (l ∷ ls) all remarks =
    let rest = remarked_listing ls in
    ap (λ (t : List ℕ). lines_in tables (t ++ l.remark ++ (10 ∷ []) ++ rest)) (bare_is l.insn)
    ∙ line_lines (line_text l.insn) l.remark rest (plain_line l.insn all.0) remarks.0
    ∙ ap (λ (m : Line). m ∷ lines_in tables rest) (line_again l.insn all.0)
    ∙ ap (λ (ms : List Line). as_line l.insn ∷ ms) (lines_remarked ls all.1 remarks.1)

pub remarks_are_skipped : (ls : List RemarkedInsn) → RemarksAreSkipped ls
unfolding assembly_of
remarks_are_skipped ls all remarks short =
    by_tables (remarked_listing ls) (Ok (encodings (insns_of ls)))
    (ap (assembly_of_lines tables) (lines_remarked ls all remarks)
    ∙ lines_assemble (insns_of ls) short)
