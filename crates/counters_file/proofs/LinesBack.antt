-- A line is read as what was written.
use Rattle.std.proofs.Common.{◌≡◌, ◌≢◌, ℕ, ◌+◌, ◌-◌, ◌<◌, ◌≤◌, ◌^◌, Bool, true, false}
use Rattle.std.proofs.Common.{List, [], ◌∷◌, ◌++◌, length, refl, sym, ap, ◌∙◌, arith, rules}
use Rattle.std.proofs.Common.{append-nil, Option, Some, None}
use Rattle.std.specs.Prelude.{All, ◌==◌, ◌&&◌, nat_lt, nat_le, not, if◌then◌else◌, slice_index}
use Rattle.std.specs.Prelude.{slice_set, option_map, option_and_then}
use Rattle.std.specs.Fmt.{decimal}
use Rattle.std.specs.List.{slice_split}
use Rattle.std.specs.Str.{bytes_eq}
use Rattle.std.proofs.lemmas.Bool.{lt-ltb, le-leb}
use Rattle.std.proofs.lemmas.List.Elements.{All-head, All-tail}
use Rattle.std.proofs.lemmas.List.Folds.{list_any_none}
use Rattle.std.proofs.lemmas.List.Splits.{slice_split_at, slice_split_none}
use Rattle.std.proofs.lemmas.Slice.Eq.{bytes_eq-Decides}
use Rattle.cells.specs.declared.array.CellArray.{CellArray}
use Rattle.cells.specs.declared.array.CellWidth.{CellWidth}
use Rattle.cells.specs.declared.array.CellWidth.TheVariants.{Bits32, Bits64}
use Rattle.cells.specs.Arrays.{HasRanges, IsQuota}
use Rattle.cells.specs.Directory.{Declaration, declaration, array_named, taken, next_array}
use Rattle.cells.specs.Events.{limit}
use Rattle.cells.specs.Names.{IsName}
use Rattle.declarations.specs.Spec.{declaration_of, name_of, width_of, length_of}
use Rattle.declarations.specs.Spec.{quota_of, of_fields}
use Rattle.declarations.specs.Texts.{width_text}
use Rattle.counters_file.specs.Lines.{Counters, is_blank, array_word, quota_field, array_line}
use Rattle.counters_file.specs.Lines.{counter_line, has_name, array_declared, array_added}
use Rattle.counters_file.specs.Lines.{with_arrays, with_values, with_fields, with_line, value_set}
use Rattle.counters_file.specs.Lines.{number_in, can_count, cell_set, counter_set}
use Rattle.counters_file.proofs.Numbers.{number_back, digits_without, not_blank}
use Rattle.counters_file.proofs.Names.{name_without}
use Rattle.counters_file.proofs.Placed.{IsPlaced}

-- ---- the fields of an array

abbrev quota_parts : Option ℕ → List (List ℕ)
quota_parts None = []
quota_parts (Some quota) = decimal quota ∷ []

wide_free : (w : CellWidth) → All (λ (b : ℕ). is_blank b ≡ false) (width_text w)
wide_free Bits32 = search rules
wide_free Bits64 = search rules

last_parts : (w : CellWidth) (n : ℕ) (q : Option ℕ) → HasRanges w n q
    → slice_split is_blank (decimal n ++ quota_field q) ≡ decimal n ∷ quota_parts q
last_parts w n None ranges =
    let size = ranges.to in
    ap (slice_split is_blank) (append-nil (decimal n))
    ∙ slice_split_none is_blank (decimal n) (digits_without n 32 (omega (arith, size)) not_blank)
last_parts w n (Some q) ranges =
    let size = ranges.to in
    let small = (ranges.quota_is q refl).to in
    slice_split_at is_blank (decimal n) 32 (decimal q)
    (digits_without n 32 (omega (arith, size)) not_blank) refl
    ∙ ap (λ (parts : List (List ℕ)). decimal n ∷ parts)
    (slice_split_none is_blank (decimal q) (digits_without q 32 (omega (arith, small)) not_blank))

array_parts : (a : CellArray) → IsName a.name → HasRanges a.width a.length a.quota
    → slice_split is_blank (array_line a)
    ≡ array_word ∷ a.name ∷ width_text a.width ∷ decimal a.length ∷ quota_parts a.quota
array_parts a name ranges =
    let last = decimal a.length ++ quota_field a.quota in
    slice_split_at is_blank array_word 32 (a.name ++ 32 ∷ (width_text a.width ++ 32 ∷ last))
    (search rules) refl
    ∙ ap (λ (parts : List (List ℕ)). array_word ∷ parts)
    (slice_split_at is_blank a.name 32 (width_text a.width ++ 32 ∷ last)
    (name_without 32 refl a.name name) refl
    ∙ ap (λ (parts : List (List ℕ)). a.name ∷ parts)
    (slice_split_at is_blank (width_text a.width) 32 last (wide_free a.width) refl
    ∙ ap (λ (parts : List (List ℕ)). width_text a.width ∷ parts)
    (last_parts a.width a.length a.quota ranges)))

-- ---- its declaration

name_back : (text : List ℕ) → IsName text → name_of text ≡ Some text
name_back text name =
    ap (λ (b : Bool). if b && nat_le (length text) 32 then Some text else None) name.spelled
    ∙ ap (λ (b : Bool). if true && b then Some text else None) (le-leb (length text) 32 name.short)

width_back : (w : CellWidth) → width_of (width_text w) ≡ Some w
width_back Bits32 = refl
width_back Bits64 = refl

declared_with : (name : List ℕ) (w : CellWidth) (n : ℕ) (text : Option (List ℕ)) (q : Option ℕ)
    → IsName name → 1 ≤ n → n ≤ 4096 → quota_of w text ≡ Some q
    → declaration_of name (width_text w) (decimal n) text ≡ Some (declaration name w n q)
declared_with name w n text q named low high quota =
    let after : List ℕ → CellWidth → Option Declaration = λ m v. option_and_then (λ l.
    option_map (λ q. declaration m v l q) (quota_of v text)) (length_of (decimal n)) in
    ap (λ (o : Option (List ℕ)). option_and_then (λ m. option_and_then (after m)
    (width_of (width_text w))) o) (name_back name named)
    ∙ ap (λ (o : Option CellWidth). option_and_then (after name) o) (width_back w)
    ∙ ap (λ (o : Option ℕ). option_and_then (λ l. option_map (λ q. declaration name w l q)
    (quota_of w text)) o) (number_back 1 4096 n low high (omega (arith, high)))
    ∙ ap (λ (o : Option (Option ℕ)). option_map (λ q. declaration name w n q) o) quota

quota_back : (w : CellWidth) (q : ℕ) → IsQuota w q → quota_of w (Some (decimal q)) ≡ Some (Some q)
quota_back w q is =
    ap (λ v. quota_of v (Some (decimal q))) is.width
    ∙ ap (λ (o : Option ℕ). option_map (λ k. Some k) o)
    (number_back 1 (2 ^ 63 - 1) q is.from (high is.to) (low is.to))
  where
    high : q < 2 ^ 63 → q ≤ 2 ^ 63 - 1
    high small = omega (arith, small)

    low : q < 2 ^ 63 → q < 2 ^ 64
    low small = omega (arith, small)

fields_back : (name : List ℕ) (w : CellWidth) (n : ℕ) (q : Option ℕ) → IsName name
    → HasRanges w n q
    → of_fields (name ∷ width_text w ∷ decimal n ∷ quota_parts q)
    ≡ Some (declaration name w n q)
fields_back name w n None named ranges =
    declared_with name w n None None named ranges.from ranges.to refl
fields_back name w n (Some q) named ranges =
    declared_with name w n (Some (decimal q)) (Some q) named ranges.from ranges.to
    (quota_back w q (ranges.quota_is q refl))

-- ---- the array

other_text : (a b : List ℕ) → a ≢ b → bytes_eq a b ≡ false
other_text a b ne = grind (arith, bytes_eq-Decides)

pub same_text : (a : List ℕ) → bytes_eq a a ≡ true
same_text a = grind (arith, bytes_eq-Decides)

is_new : (done : List CellArray) (name : List ℕ) → All (λ (b : CellArray). b.name ≢ name) done
    → has_name done name ≡ false
is_new done name new =
    list_any_none (λ (b : CellArray). bytes_eq b.name name) done
    (λ k d lt. other_text _ name (new k d lt))

declared_back : (done : List CellArray) (a : CellArray) → IsPlaced done a
    → array_declared (declaration a.name a.width a.length a.quota) done
    ≡ Some (done ++ a ∷ [])
declared_back done a is =
    let d = declaration a.name a.width a.length a.quota in
    let next = done ++ next_array d done ∷ [] in
    ap (λ (b : Bool). if not b && nat_le (taken a.width done + a.length) 4096
    then Some next else None) (is_new done a.name is.new)
    ∙ ap (λ (b : Bool). if true && b then Some next else None)
    (le-leb (taken a.width done + a.length) 4096 is.fits)
    ∙ ap (λ (base : ℕ). let b : CellArray = record {
      name = a.name;
      width = a.width;
      base = base;
      length = a.length;
      quota = a.quota;
    } in Some (done ++ b ∷ [])) (sym is.base)

-- the line of an array adds it
pub array_back : (done : List CellArray) (a : CellArray) (values : List ℕ) → IsPlaced done a
    → with_line (array_line a) (record { arrays = done; values = values })
    ≡ Some (record { arrays = done ++ a ∷ []; values = values })
array_back done a values is =
    let c : Counters = record { arrays = done; values = values } in
    ap (λ (parts : List (List ℕ)). with_fields parts c) (array_parts a is.name is.ranges)
    ∙ ap (λ (d : Option Declaration). with_arrays (array_added d done) c)
    (fields_back a.name a.width a.length a.quota is.name is.ranges)
    ∙ ap (λ (arrays : Option (List CellArray)). with_arrays arrays c) (declared_back done a is)

-- ---- a counter

counter_parts : (a : CellArray) (i v : ℕ) → IsName a.name → i < 2 ^ 64 → v < 2 ^ 64
    → slice_split is_blank (counter_line a i v) ≡ a.name ∷ decimal i ∷ decimal v ∷ []
counter_parts a i v name low high =
    slice_split_at is_blank a.name 32 (decimal i ++ 32 ∷ decimal v)
    (name_without 32 refl a.name name) refl
    ∙ ap (λ (parts : List (List ℕ)). a.name ∷ parts)
    (slice_split_at is_blank (decimal i) 32 (decimal v) (digits_without i 32 low not_blank) refl)
    ∙ ap (λ (parts : List (List ℕ)). a.name ∷ decimal i ∷ parts)
    (slice_split_none is_blank (decimal v) (digits_without v 32 high not_blank))

found_after : (done : List CellArray) (a : CellArray) (rest : List CellArray)
    → All (λ (b : CellArray). b.name ≢ a.name) done
    → array_named a.name (done ++ a ∷ rest) ≡ Some a
found_after [] a rest new =
    ap (λ (b : Bool). if b then Some a else array_named a.name rest) (same_text a.name)
found_after (b ∷ done) a rest new =
    let N : CellArray → Type 0 = λ (b : CellArray). b.name ≢ a.name in
    ap (λ (t : Bool). if t then Some b else array_named a.name (done ++ a ∷ rest))
    (other_text b.name a.name (All-head N b done new))
    ∙ found_after done a rest (All-tail N b done new)

number_is : (n : ℕ) → n < 2 ^ 64 → number_in (decimal n) ≡ Some n
number_is n small = number_back 0 (2 ^ 64 - 1) n (omega arith) (omega (arith, small)) small

set_back : (c v : ℕ) (values : List ℕ) → c < 8192 → v < limit c → slice_index values c ≡ 0
    → cell_set c v values ≡ Some (slice_set values c v)
set_back c v values within fits zero =
    let set = slice_set values c v in
    ap (λ (b : Bool). if b && nat_lt v (limit c) && (slice_index values c == 0)
    then Some set else None) (lt-ltb c 8192 within)
    ∙ ap (λ (b : Bool). if true && b && (slice_index values c == 0) then Some set else None)
    (lt-ltb v (limit c) fits)
    ∙ ap (λ (k : ℕ). if true && true && (k == 0) then Some set else None) zero

-- the line of a counter that is 0 so far sets it
pub counter_back : (done : List CellArray) (a : CellArray) (rest : List CellArray) (i v : ℕ)
    (values : List ℕ) → IsPlaced done a → i < a.length → a.base + i < 8192
    → v < limit (a.base + i) → v < 2 ^ 64 → can_count a.quota v ≡ true
    → slice_index values (a.base + i) ≡ 0
    → with_line (counter_line a i v) (record { arrays = done ++ a ∷ rest; values = values })
    ≡ Some (record {
      arrays = done ++ a ∷ rest;
      values = slice_set values (a.base + i) v;
    })
counter_back done a rest i v values is index within fits small can zero =
    let size = is.ranges.to in
    let low : i < 2 ^ 64 = omega (arith, index, size) in
    let c : Counters = record { arrays = done ++ a ∷ rest; values = values } in
    let set : Option ℕ → Option ℕ → Option Counters = λ j w.
    with_values (counter_set (done ++ a ∷ rest) a.name j w values) c in
    ap (λ (parts : List (List ℕ)). with_fields parts c) (counter_parts a i v is.name low small)
    ∙ ap (λ (j : Option ℕ). set j (number_in (decimal v))) (number_is i low)
    ∙ ap (λ (w : Option ℕ). set (Some i) w) (number_is v small)
    ∙ ap (λ (o : Option CellArray). with_values (option_and_then (value_set i v values) o) c)
    (found_after done a rest is.new)
    ∙ ap (λ (b : Bool). with_values (if b && can_count a.quota v
    then cell_set (a.base + i) v values else None) c) (lt-ltb i a.length index)
    ∙ ap (λ (b : Bool). with_values (if b then cell_set (a.base + i) v values else None) c) can
    ∙ ap (λ (o : Option (List ℕ)). with_values o c)
    (set_back (a.base + i) v values within fits zero)
