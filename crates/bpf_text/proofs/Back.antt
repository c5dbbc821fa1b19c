-- A listing assembles to the bytes that it lists.
use Rattle.std.proofs.Common.{◌≡◌, ℕ, zero, suc, ◌+◌, ◌-◌, ◌*◌, ◌<◌, ◌≤◌, ◌^◌, ℤ, pos, negsuc}
use Rattle.std.proofs.Common.{List, [], ◌∷◌, ◌++◌, length, map, Option, Some, None, Result}
use Rattle.std.proofs.Common.{Ok, option_map, Bool, true, false, ◌&&◌, ◌==◌, nat_le, slice_index}
use Rattle.std.proofs.Common.{codes, refl, sym, ap, ◌∙◌, append_assoc, length-append, arith}
use Rattle.std.specs.Prelude.{ok_or}
use Rattle.std.proofs.lemmas.List.Folds.{list_all-append}
use Rattle.std.proofs.lemmas.List.Splits.{slice_split-cons_no, length-slice_split}
use Rattle.std.proofs.lemmas.Fmt.{decimal_is_IsNumeral}
use Rattle.std.specs.Fmt.{decimal, signed_decimal}
use Rattle.std.specs.List.{AllByRecursion, list_all, slice_split, onto_first}
use Rattle.std.specs.Str.Lines.{lines, lines_of_parts, strip_carriage_return}
use Rattle.bpf_insn.specs.declared.operand.Distance.TheVariants.{Short}
use Rattle.bpf_insn.specs.declared.operand.WideValue.TheVariants as wide
use Rattle.bpf_insn.specs.declared.insn.Insn.{Insn}
use Rattle.bpf_insn.specs.declared.insn.Insn.TheVariants as insn
use Rattle.bpf_insn.specs.Spelling.{IsEncodable, encoding, width_of, slots_of}
use Rattle.bpf_insn.specs.Program.{encodings, layout, slots, slots_moved}
use Rattle.bpf_text.specs.declared.argument.Argument as arguments
use Rattle.bpf_text.specs.declared.argument.Argument.TheVariants as argument
use Rattle.bpf_text.specs.declared.text_fault.AsmFault.{AsmFault}
use Rattle.bpf_text.specs.declared.text_fault.AsmFaultKind.{AsmFaultKind}
use Rattle.bpf_text.specs.declared.text_fault.AsmFaultKind.TheVariants as kind
use Rattle.bpf_text.specs.declared.operand.Given.TheVariants.{Argument}
use Rattle.bpf_text.specs.declared.three.UpToThree.{UpToThree}
use Rattle.bpf_text.specs.Arguments.{mnemonic_of, arguments_of}
use Rattle.bpf_text.specs.Assembly.{slots_in, slots_of_word, too_long, line_fault, fault_or}
use Rattle.bpf_text.specs.Assembly.{first_fault, placed, argument_if, arguments_at, insn_at}
use Rattle.bpf_text.specs.Assembly.{bytes_onto, bytes_of_placed, onto_bytes, unless_fault}
use Rattle.bpf_text.specs.Assembly.{label_slot, assembly_of, assembly_of_lines, Assembles}
use Rattle.bpf_text.specs.Lines.{Line, lines_in, read_line}
use Rattle.bpf_text.specs.Listing.{Lists, listing_of, line_of, register_text}
use Rattle.bpf_text.specs.Listing.{with_sign, argument_text, text_after}
use Rattle.bpf_text.specs.Results.{◌>>?◌, in_turn}
use Rattle.bpf_text.specs.Statements.{insn_of}
use Rattle.bpf_text.specs.Tables.{tables}
use Rattle.bpf_text.specs.Three.{map_three}
use Rattle.lexing.specs.Letter.{is_letter, is_word_byte}
use Rattle.bpf_text.specs.Tokens.{Name}
use Rattle.bpf_text.specs.Words.{word_of}
use Rattle.bpf_text.proofs.Named.{is_word_text, is_named, register_is_named}
use Rattle.bpf_text.proofs.Lexing.{and_both, digit_names}
use Rattle.bpf_text.proofs.Arguments.{IsShort, HasShort}
use Rattle.bpf_text.proofs.Again.{HasShortOption}
use Rattle.bpf_text.proofs.Exact.{by_tables}
use Rattle.bpf_text.proofs.Placing.{slots_more}
use Rattle.bpf_text.proofs.Reading.{length-slots, length-encodings}
use Rattle.bpf_text.proofs.Rereading.{line_text, arguments_text, line_ends}
use Rattle.bpf_text.proofs.Rereading.{are_short, stated, as_line, line_again}
use Rattle.bpf_text.proofs.Splitting.{parts_cons}
use Rattle.bpf_text.proofs.Statements.{insn_again}

-- ---- no line of a listing has a control character

abbrev pub is_plain : List ℕ → Bool
is_plain t = list_all (λ c. nat_le 32 c) t

plain_append : (xs ys : List ℕ) → is_plain xs ≡ true → is_plain ys ≡ true
    → is_plain (xs ++ ys) ≡ true
plain_append xs ys h k =
    list_all-append (λ c. nat_le 32 c) xs ys ∙ ap (λ (b : Bool). b && is_plain ys) h ∙ k

plain_name_byte : (c : ℕ) → is_word_byte c ≡ true → nat_le 32 c ≡ true
plain_name_byte c h = grind arith

plain_names : (w : List ℕ) → list_all is_word_byte w ≡ true → is_plain w ≡ true
plain_names [] h = refl
plain_names (c ∷ w) h =
    let both = and_both (is_word_byte c) (list_all is_word_byte w) h in
    let e = plain_name_byte c both.0 in simp e (plain_names w both.1)

plain_word : (w : List ℕ) → is_word_text w ≡ true → is_plain w ≡ true
plain_word [] h = refl
plain_word (c ∷ w) h =
    let letter = and_both (is_letter c)
    (list_all is_word_byte w && nat_le (length (c ∷ w)) 32) h in
    let parts = and_both (list_all is_word_byte w) (nat_le (length (c ∷ w)) 32) letter.1 in
    let name : is_word_byte c ≡ true = let l = letter.0 in simp l refl in
    let e = plain_name_byte c name in simp e (plain_names w parts.0)

plain_decimal : (n : ℕ) → n < 2 ^ 64 → is_plain (decimal n) ≡ true
plain_decimal n small =
    plain_names (decimal n) (digit_names (decimal n) (decimal_is_IsNumeral n small).0.1)

plain_signed : (k : ℤ) → IsShort k → is_plain (signed_decimal k) ≡ true
plain_signed (pos n) h = plain_decimal n h
plain_signed (negsuc n) h = plain_decimal (suc n) h

plain_with_sign : (k : ℤ) → IsShort k → is_plain (with_sign k) ≡ true
plain_with_sign (pos n) h = plain_decimal n h
plain_with_sign (negsuc n) h = plain_decimal (suc n) h

plain_argument : (a : arguments.Argument) → HasShort a → is_plain (argument_text a) ≡ true
plain_argument (argument.Register r) h = plain_word (register_text r) (register_is_named r).is_text
plain_argument (argument.Imm k) h = plain_signed k h
plain_argument (argument.Number n) h = plain_decimal n h
plain_argument (argument.Distance d) h = plain_with_sign (slots_moved d) h
plain_argument (argument.Memory r k) h =
    plain_append ((codes "[" ++ register_text r) ++ with_sign k) (codes "]")
    (plain_append (codes "[" ++ register_text r) (with_sign k)
    (plain_append (codes "[") (register_text r) refl
    (plain_word (register_text r) (register_is_named r).is_text))
    (plain_with_sign k h))
    refl

plain_behind : (divider : List ℕ) (o : Option arguments.Argument)
    → is_plain divider ≡ true → HasShortOption o → is_plain (text_after divider o) ≡ true
plain_behind divider None d h = refl
plain_behind divider (Some a) d h = plain_append divider (argument_text a) d (plain_argument a h)

pub plain_line : (i : Insn) → IsEncodable i → is_plain (line_text i) ≡ true
plain_line i p =
    let a = arguments_of i in
    let short = are_short i p in
    plain_append (word_of (mnemonic_of i)) (arguments_text a)
    (plain_word (word_of (mnemonic_of i)) (is_named (mnemonic_of i)).is_text)
    (plain_append (text_after (codes " ") a.first)
    (text_after (codes ", ") a.second ++ (text_after (codes ", ") a.third ++ []))
    (plain_behind (codes " ") a.first refl short.first)
    (plain_append (text_after (codes ", ") a.second) (text_after (codes ", ") a.third ++ [])
    (plain_behind (codes ", ") a.second refl short.second)
    (plain_append (text_after (codes ", ") a.third) []
    (plain_behind (codes ", ") a.third refl short.third) refl)))

-- ---- its lines

abbrev is_newline : ℕ → Bool
is_newline b = b == 10

plain_no_newline : (c : ℕ) → nat_le 32 c ≡ true → is_newline c ≡ false
plain_no_newline c h = grind arith

plain_no_return : (c : ℕ) → nat_le 32 c ≡ true → (c == 13) ≡ false
plain_no_return c h = grind arith

split_plain : (xs ys : List ℕ) → is_plain xs ≡ true
    → slice_split is_newline (xs ++ (10 ∷ ys)) ≡ xs ∷ slice_split is_newline ys
split_plain [] ys h = refl
split_plain (c ∷ xs) ys h =
    let both = and_both (nat_le 32 c) (is_plain xs) h in
    slice_split-cons_no is_newline c (xs ++ (10 ∷ ys)) (plain_no_newline c both.0)
    ∙ ap (onto_first c) (split_plain xs ys both.1)

no_return : (xs : List ℕ) (i : ℕ) → is_plain xs ≡ true → (slice_index xs i == 13) ≡ false
no_return [] i h = refl
no_return (c ∷ xs) zero h = plain_no_return c (and_both (nat_le 32 c) (is_plain xs) h).0
no_return (c ∷ xs) (suc i) h = no_return xs i (and_both (nat_le 32 c) (is_plain xs) h).1

keeps_plain : (xs : List ℕ) → is_plain xs ≡ true → strip_carriage_return xs ≡ xs
keeps_plain xs h = let e = no_return xs (length xs - 1) h in simp e refl

pub line_of_plain : (xs ys : List ℕ) → is_plain xs ≡ true
    → lines (xs ++ (10 ∷ ys)) ≡ xs ∷ lines ys
line_of_plain xs ys h =
    let some : 0 < length (slice_split is_newline ys) =
    omega (arith, length-slice_split is_newline ys) in
    ap lines_of_parts (split_plain xs ys h) ∙ parts_cons xs (slice_split is_newline ys) some
    ∙ ap (λ (x : List ℕ). x ∷ lines ys) (keeps_plain xs h)

lines_again : (is : List Insn) → AllByRecursion IsEncodable is
    → lines_in tables (listing_of is) ≡ map as_line is
lines_again [] all = refl
lines_again (i ∷ is) all =
    let t = line_text i in
    let text : line_of i ++ listing_of is ≡ t ++ (10 ∷ listing_of is) =
    ap (λ (u : List ℕ). u ++ listing_of is) (line_ends i)
    ∙ append_assoc t (10 ∷ []) (listing_of is) in
    ap (lines_in tables) text
    ∙ ap (map (read_line tables)) (line_of_plain t (listing_of is) (plain_line i all.0))
    ∙ ap (λ (l : Line). l ∷ lines_in tables (listing_of is)) (line_again i all.0)
    ∙ ap (λ (ls : List Line). as_line i ∷ ls) (lines_again is all.1)

-- ---- its bytes

width_again : (i : Insn) → slots_of (width_of i) ≡ slots_of_word (mnemonic_of i)
width_again (insn.Jump (Short k)) = refl
width_again (insn.Wide dst (wide.Number n)) = refl
width_again i = refl

not_too_long : (n : ℕ) → n ≤ 4096 → too_long n ≡ None
not_too_long n h = grind arith

no_fault : (before : List Line) (is : List Insn) → slots_in before + length (layout is) ≤ 4096
    → first_fault before (map as_line is) ≡ None
no_fault before [] short = refl
no_fault before (i ∷ is) short =
    let n = slots_of_word (mnemonic_of i) in
    let len : length (layout (i ∷ is)) ≡ n + length (layout is) =
    length-append (slots i) (layout is)
    ∙ ap (λ (m : ℕ). m + length (layout is)) (length-slots i ∙ width_again i) in
    let fine : line_fault before (as_line i) ≡ None =
    not_too_long (slots_in before + n) (omega (arith, short, len)) in
    let more = slots_more before (as_line i) in
    ap (λ (o : Option _).
    fault_or (length before + 1) o (first_fault (before ++ (as_line i ∷ [])) (map as_line is))) fine
    ∙ no_fault (before ++ (as_line i ∷ [])) is (omega (arith, short, len, more))

argument_again : (slot_of : Name → Option ℕ) (s : ℕ) (a : Option arguments.Argument)
    → argument_if slot_of s (option_map Argument a) ≡ Ok a
argument_again slot_of s None = refl
argument_again slot_of s (Some a) = refl

arguments_again : (slot_of : Name → Option ℕ) (s : ℕ) (a : UpToThree arguments.Argument)
    → arguments_at slot_of s (map_three Argument a) ≡ Ok a
arguments_again slot_of s a =
    let y = argument_if slot_of s (option_map Argument a.second) in
    let z = argument_if slot_of s (option_map Argument a.third) in
    ap (λ (r : Result (Option arguments.Argument) AsmFaultKind). in_turn r y z)
    (argument_again slot_of s a.first)
    ∙ ap (λ (r : Result (Option arguments.Argument) AsmFaultKind). in_turn (Ok a.first) r z)
    (argument_again slot_of s a.second)
    ∙ ap (λ (r : Result (Option arguments.Argument) AsmFaultKind).
    in_turn (Ok a.first) (Ok a.second) r) (argument_again slot_of s a.third)

stated_again : (slot_of : Name → Option ℕ) (n s : ℕ) (i : Insn)
    → insn_at tables slot_of (record { line = n; slot = s; statement = stated i }) ≡ Ok i
stated_again slot_of n s i =
    ap (λ (r : Result (UpToThree arguments.Argument) AsmFaultKind). r >>? λ a.
    ok_or (insn_of (mnemonic_of i) a) kind.Operand) (arguments_again slot_of s (arguments_of i))
    ∙ ap (λ o. ok_or o kind.Operand) (insn_again i)

bytes_again : (slot_of : Name → Option ℕ) (n s : ℕ) (is : List Insn)
    → bytes_of_placed tables slot_of (placed n s (map as_line is)) ≡ Ok (encodings is)
bytes_again slot_of n s [] = refl
bytes_again slot_of n s (i ∷ is) =
    let more = bytes_of_placed tables slot_of
    (placed (n + 1) (s + slots_of_word (mnemonic_of i)) (map as_line is)) in
    ap (λ (r : Result Insn AsmFaultKind). bytes_onto n r more) (stated_again slot_of n s i)
    ∙ ap (onto_bytes (encoding i))
    (bytes_again slot_of (n + 1) (s + slots_of_word (mnemonic_of i)) is)

pub lines_assemble : (is : List Insn) → length (layout is) ≤ 4096
    → assembly_of_lines tables (map as_line is) ≡ Ok (encodings is)
lines_assemble is short =
    ap (λ (o : Option AsmFault). unless_fault o
    (bytes_of_placed tables (label_slot 0 (map as_line is)) (placed 1 0 (map as_line is))))
    (no_fault [] is (omega (arith, short)))
    ∙ bytes_again (label_slot 0 (map as_line is)) 1 0 is

assembly_again : (bytes text : List ℕ) → Lists bytes text → length bytes ≤ 8 * 4096
    → assembly_of tables text ≡ Ok bytes
unfolding assembly_of
assembly_again bytes text h short =
    let is = h.0 in
    let len : length bytes ≡ 8 * length (layout is) = ap length h.2 ∙ length-encodings is in
    ap (assembly_of tables) h.3 ∙ ap (assembly_of_lines tables) (lines_again is h.1)
    ∙ lines_assemble is (omega (arith, len, short)) ∙ ap Ok (sym h.2)

-- the listing of bytes assembles to them
pub listing_assembles : (bytes text : List ℕ) → Lists bytes text → length bytes ≤ 8 * 4096
    → Assembles text (Ok bytes)
listing_assembles bytes text h short = by_tables text (Ok bytes) (assembly_again bytes text h short)
