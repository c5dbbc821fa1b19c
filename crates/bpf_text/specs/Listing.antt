-- The text of a listing, one line for each instruction, and which bytes have a listing.
use Rattle.std.specs.Prelude.{◌≡◌, ℕ, ◌+◌, ◌*◌, ◌<◌, ℤ, pos, negsuc, suc, List, [], ◌∷◌, ◌++◌}
use Rattle.std.specs.Prelude.{length, take, Option, Some, None, Result, Ok, Err, codes}
use Rattle.std.specs.List.{AllByRecursion}
use Rattle.std.specs.Fmt.{decimal, signed_decimal}
use Rattle.std.specs.String.{string_bytes}
use Rattle.std.specs.declared.alloc.Global.{Global}
use Rattle.std.specs.declared.string.String.{String}
use Rattle.bpf_insn.specs.declared.reg.Reg.{Reg}
use Rattle.bpf_insn.specs.declared.reg.Reg.TheVariants.{R0, R1, R2, R3, R4, R5, R6, R7, R8, R9, R10}
use Rattle.bpf_insn.specs.declared.insn.Insn.{Insn}
use Rattle.bpf_insn.specs.declared.fields.InsnFault.{InsnFault}
use Rattle.bpf_insn.specs.Spelling.{IsEncodable, IsLeastFault, Spells, width_of, slots_of}
use Rattle.bpf_insn.specs.Program.{encodings, layout, slots_moved}
use Rattle.bpf_text.specs.declared.text_fault.ListFault.{ListFault}
use Rattle.bpf_text.specs.declared.text_fault.ListFault.TheVariants as list_fault
use Rattle.bpf_text.specs.declared.argument.Argument.{Argument}
use Rattle.bpf_text.specs.declared.argument.Argument.TheVariants.{Register, Imm, Number}
use Rattle.bpf_text.specs.declared.argument.Argument.TheVariants.{Memory, Distance}
use Rattle.bpf_text.specs.Arguments.{mnemonic_of, arguments_of}
use Rattle.bpf_text.specs.Words.{word_of}

abbrev pub register_text : Reg → List ℕ
register_text R0 = codes "r0"
register_text R1 = codes "r1"
register_text R2 = codes "r2"
register_text R3 = codes "r3"
register_text R4 = codes "r4"
register_text R5 = codes "r5"
register_text R6 = codes "r6"
register_text R7 = codes "r7"
register_text R8 = codes "r8"
register_text R9 = codes "r9"
register_text R10 = codes "r10"

-- an offset or a distance has its sign, also + before 0
abbrev pub with_sign : ℤ → List ℕ
with_sign (pos n) = codes "+" ++ decimal n
with_sign (negsuc n) = codes "-" ++ decimal (suc n)

abbrev pub argument_text : Argument → List ℕ
argument_text (Register r) = register_text r
argument_text (Imm k) = signed_decimal k
argument_text (Number n) = decimal n
argument_text (Memory r k) = codes "[" ++ register_text r ++ with_sign k ++ codes "]"
argument_text (Distance distance) = with_sign (slots_moved distance)

-- the divider and the argument, if there is one
abbrev pub text_after : List ℕ → Option Argument → List ℕ
text_after divider None = []
text_after divider (Some a) = divider ++ argument_text a

-- the line of an instruction, without the line feed that ends it
abbrev pub bare_line : Insn → List ℕ
bare_line i =
    word_of (mnemonic_of i)
    ++ text_after (codes " ") ((arguments_of i).first)
    ++ text_after (codes ", ") ((arguments_of i).second)
    ++ text_after (codes ", ") ((arguments_of i).third)

-- the line of an instruction
abbrev pub line_of : Insn → List ℕ
line_of i = bare_line i ++ codes "\n"

-- the lines of a list of instructions
abbrev pub listing_of : List Insn → List ℕ
listing_of [] = []
listing_of (i ∷ rest) = line_of i ++ listing_of rest

-- these bytes are the encodings of instructions, and this is their listing
abbrev pub Lists : List ℕ → List ℕ → Type 0
Lists bytes text =
    (is : List Insn) × AllByRecursion IsEncodable is × (bytes ≡ encodings is)
    × (text ≡ listing_of is)

-- instructions fill the slots before this one, and none begins at it
abbrev pub IsFirstFault : List ℕ → ℕ → InsnFault → Type 0
IsFirstFault bytes slot e =
    (is : List Insn) × AllByRecursion IsEncodable is × (slot ≡ length (layout is))
    × (take (8 * slot) bytes ≡ encodings is) × (8 * slot < length bytes) × IsLeastFault bytes slot e

-- nothing is claimed if an allocation failed
abbrev pub IsListFault : List ℕ → ListFault → Type 0
IsListFault bytes (list_fault.Insn slot e) = IsFirstFault bytes slot e
IsListFault bytes list_fault.Memory = Unit {0}

-- the verdict on bytes: their listing, or the first fault
abbrev pub IsListing : List ℕ → Result (List ℕ) ListFault → Type 0
IsListing bytes (Ok text) = Lists bytes text
IsListing bytes (Err (list_fault.Insn slot e)) = IsFirstFault bytes slot e
IsListing bytes (Err list_fault.Memory) = ⊥

-- no bytes have two listings or faults
abbrev pub HasOneListing : List ℕ → Type 0
HasOneListing bytes =
    (a b : Result (List ℕ) ListFault) → IsListing bytes a → IsListing bytes b → a ≡ b

-- ---- one line of the listing

abbrev pub Appends : String Global → String Global → List ℕ → Type 0
Appends before after text = string_bytes after ≡ string_bytes before ++ text

-- an instruction is at this slot, `next` is the slot after it, and the text grows by its line
abbrev pub IsNextLine : List ℕ → ℕ → List ℕ → List ℕ → ℕ → Type 0
IsNextLine bytes slot before after next =
    (i : Insn) × Spells bytes slot i × (next ≡ slot + slots_of (width_of i))
    × (after ≡ before ++ line_of i)

abbrev pub IsFaultAt : List ℕ → ℕ → ListFault → Type 0
IsFaultAt bytes slot (list_fault.Insn at e) = (at ≡ slot) × IsLeastFault bytes slot e
IsFaultAt bytes slot list_fault.Memory = Unit {0}
