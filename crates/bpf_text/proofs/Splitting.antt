-- The first line of a text.
use Rattle.std.proofs.Common.{◌≡◌, ℕ, ◌+◌, ◌-◌, ◌<◌, ◌≤◌, List, [], ◌∷◌, length, take, drop}
use Rattle.std.proofs.Common.{Bool, true, false, ◌==◌, refl, sym, ap, ◌∙◌, arith, length-drop}
use Rattle.std.proofs.lemmas.List.{take_all, length-take}
use Rattle.std.proofs.lemmas.List.Splits.{slice_split_first, slice_split-cons_no}
use Rattle.std.proofs.lemmas.List.Splits.{length-slice_split}
use Rattle.std.specs.List.{slice_split, position_or_len, onto_first}
use Rattle.std.specs.Str.Lines.{lines, lines_of_parts, strip_carriage_return}

abbrev is_newline : ℕ → Bool
is_newline b = b == 10

pub parts_cons : (x : List ℕ) (ps : List (List ℕ)) → 0 < length ps
    → lines_of_parts (x ∷ ps) ≡ strip_carriage_return x ∷ lines_of_parts ps
parts_cons x [] some = absurd (omega (arith, some))
parts_cons x (y ∷ more) some = refl

pub line_first : (text rest : List ℕ) (n : ℕ) → n ≡ position_or_len is_newline text
    → n < length text → rest ≡ take (length text - (n + 1)) (drop (n + 1) text)
    → lines text ≡ strip_carriage_return (take n text) ∷ lines rest
line_first text rest n e inside behind =
    let after : rest ≡ drop (n + 1) text = behind ∙ take_all (length text - (n + 1))
    (drop (n + 1) text) (omega (arith, length-drop (n + 1) text)) in
    let found : position_or_len is_newline text < length text = omega (arith, e, inside) in
    let some : 0 < length (slice_split is_newline rest) =
    omega (arith, length-slice_split is_newline rest) in
    ap lines_of_parts (slice_split_first is_newline text 0 found)
    ∙ ap (λ (k : ℕ). lines_of_parts (take k text ∷ slice_split is_newline (drop (k + 1) text)))
    (sym e)
    ∙ ap (λ (t : List ℕ). lines_of_parts (take n text ∷ slice_split is_newline t)) (sym after)
    ∙ parts_cons (take n text) (slice_split is_newline rest) some

one_part : (c : ℕ) (text : List ℕ) (b : Bool)
    → is_newline c ≡ b → length (c ∷ text) ≤ position_or_len is_newline (c ∷ text)
    → (length text ≤ position_or_len is_newline text → slice_split is_newline text ≡ text ∷ [])
    → slice_split is_newline (c ∷ text) ≡ (c ∷ text) ∷ []
one_part c text true e past next =
    let none : position_or_len is_newline (c ∷ text) ≡ 0 = simp e refl in
    absurd (omega (arith, none, past))
one_part c text false e past next =
    let more : position_or_len is_newline (c ∷ text) ≡ 1 + position_or_len is_newline text =
    simp e refl in
    let shorter : length text ≤ position_or_len is_newline text = omega (arith, more, past) in
    slice_split-cons_no is_newline c text e ∙ ap (onto_first c) (next shorter)

only_part : (text : List ℕ) → length text ≤ position_or_len is_newline text
    → slice_split is_newline text ≡ text ∷ []
only_part [] past = refl
only_part (c ∷ text) past = one_part c text (is_newline c) refl past (only_part text)

part_line : (text : List ℕ) → 0 < length text → lines_of_parts (text ∷ []) ≡ text ∷ []
part_line [] some = absurd (omega (arith, some))
part_line (c ∷ text) some = let e : (length (c ∷ text) == 0) ≡ false = grind arith in simp e refl

pub line_last : (text rest : List ℕ) (n : ℕ) → n ≡ position_or_len is_newline text
    → length text ≤ n → 0 < length text → rest ≡ take (length text - n) (drop n text)
    → lines text ≡ text ∷ lines rest
line_last text rest n e past some behind =
    let short : length rest ≡ 0 = ap length behind
    ∙ omega (arith, length-take (length text - n) (drop n text), length-drop n text) in
    ap lines_of_parts (only_part text (omega (arith, e, past))) ∙ part_line text some
    ∙ ap (λ (ls : List (List ℕ)). text ∷ ls) (sym (no_lines rest short))
  where
    no_lines : (rest : List ℕ) → length rest ≡ 0 → lines rest ≡ []
    no_lines [] h = refl
    no_lines (c ∷ rest) h = absurd (omega (arith, h))
