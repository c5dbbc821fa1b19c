-- The text of a list of declarations: each is `name:width:length` or `name:64:length:quota`, and
-- they are joined by commas. A width is `64` or `32`, and a number has decimal digits.
use Rattle.std.specs.Prelude.{ℕ, ◌-◌, ◌^◌, List, [], ◌∷◌, length, codes, Option, Some, None}
use Rattle.std.specs.Prelude.{option_and_then, option_map, Bool, ◌&&◌, nat_le, ◌==◌}
use Rattle.std.specs.Prelude.{if◌then◌else◌}
use Rattle.std.specs.List.{slice_split}
use Rattle.std.specs.Str.{byte, bytes_eq}
use Rattle.cells.specs.declared.array.CellWidth.{CellWidth}
use Rattle.cells.specs.declared.array.CellWidth.TheVariants.{Bits32, Bits64}
use Rattle.cells.specs.Directory.{Declaration, declaration}
use Rattle.cells.specs.Names.{is_spelled}
use Rattle.lexing.specs.Decimal.{decimal_within}

-- a letter or `_`, then letters, digits and `_`, at most 32 in all
abbrev pub is_name : List ℕ → Bool
is_name text = is_spelled text && nat_le (length text) 32

abbrev pub name_of : List ℕ → Option (List ℕ)
name_of text = if is_name text then Some text else None

abbrev pub width_of : List ℕ → Option CellWidth
width_of text =
    if bytes_eq text (codes "64") then Some Bits64
    else if bytes_eq text (codes "32") then Some Bits32
    else None

-- 1 to 4096 cells
abbrev pub length_of : List ℕ → Option ℕ
length_of text = decimal_within 1 4096 text

-- a quota needs 64-bit cells
abbrev pub quota_of : CellWidth → Option (List ℕ) → Option (Option ℕ)
quota_of w None = Some None
quota_of Bits64 (Some text) = option_map (λ q. Some q) (decimal_within 1 (2 ^ 63 - 1) text)
quota_of Bits32 (Some text) = None

abbrev pub declaration_of : (name width length : List ℕ) → (quota : Option (List ℕ))
    → Option Declaration
declaration_of name width length quota =
    option_and_then (λ n. option_and_then (λ w. option_and_then (λ l.
    option_map (λ q. declaration n w l q) (quota_of w quota)) (length_of length)) (width_of width))
    (name_of name)

-- the declaration with these fields between colons
abbrev pub of_fields : List (List ℕ) → Option Declaration
of_fields (name ∷ width ∷ length ∷ []) = declaration_of name width length None
of_fields (name ∷ width ∷ length ∷ quota ∷ []) = declaration_of name width length (Some quota)
of_fields fields = None

abbrev pub of_part : List ℕ → Option Declaration
of_part part = of_fields (slice_split (λ b. b == byte ":") part)

abbrev pub joined : Option Declaration → Option (List Declaration) → Option (List Declaration)
joined first rest = option_and_then (λ d. option_map (λ ds. d ∷ ds) rest) first

-- all declarations, if each part is one
abbrev pub of_parts : List (List ℕ) → Option (List Declaration)
of_parts [] = Some []
of_parts (part ∷ parts) = joined (of_part part) (of_parts parts)

-- the declarations of a text, all or none
abbrev pub declarations_in : List ℕ → Option (List Declaration)
declarations_in text = of_parts (slice_split (λ b. b == byte ",") text)
