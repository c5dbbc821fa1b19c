-- The bytes of a text, or its first fault: the lines one by one, then the jumps to labels.
use Rattle.std.specs.Prelude.{◌≡◌, ℕ, ◌+◌, ◌*◌, ◌≤◌, ◌⊎◌, ◌^◌, ℤ, pos, neg_ℤ, ◌-ℤ◌, int_le, int_lt}
use Rattle.std.specs.Prelude.{List, [], ◌∷◌, ◌++◌, length, Option, Some, None, is_some, ok_or}
use Rattle.std.specs.Prelude.{Result, Ok, Err, Bool, true, false, nat_lt, ◌&&◌, if◌then◌else◌}
use Rattle.std.specs.Str.{bytes_eq}
use Rattle.bpf_insn.specs.declared.operand.Distance.TheVariants.{Short, Long}
use Rattle.bpf_insn.specs.declared.insn.Insn.{Insn}
use Rattle.bpf_insn.specs.Spelling.{encoding}
use Rattle.bpf_text.specs.declared.text_fault.AsmFaultKind.{AsmFaultKind}
use Rattle.bpf_text.specs.declared.text_fault.AsmFaultKind.TheVariants as kind
use Rattle.bpf_text.specs.declared.text_fault.AsmFault.{AsmFault}
use Rattle.bpf_text.specs.declared.text_fault.AsmFault.TheVariants.{At, Memory}
use Rattle.bpf_text.specs.declared.argument.Argument.{Argument}
use Rattle.bpf_text.specs.declared.argument.Argument.TheVariants.{Distance}
use Rattle.bpf_text.specs.declared.mnemonic.Mnemonic.{Mnemonic}
use Rattle.bpf_text.specs.declared.mnemonic.Mnemonic.TheVariants.{LoadNumber, LoadMap, LoadCell}
use Rattle.bpf_text.specs.declared.operand.Given.{Given}
use Rattle.bpf_text.specs.declared.operand.Given.TheVariants as given
use Rattle.bpf_text.specs.declared.scan.PlacedStatement as the_placed
use Rattle.bpf_text.specs.declared.three.UpToThree.{UpToThree}
use Rattle.bpf_text.specs.Lines.{Line, Body, lines_in}
use Rattle.bpf_text.specs.Results.{OrAsmFault, ◌>>?◌, map_ok, in_turn}
use Rattle.bpf_text.specs.Tokens.{Name}
use Rattle.bpf_text.specs.Vocabulary.{Vocabulary, IsExact}

abbrev pub BytesOrFault : Type 0
BytesOrFault = Result (List ℕ) AsmFault

-- ---- the slots of lines and labels

-- the mnemonic decides how many slots the instruction takes
abbrev pub slots_of_word : Mnemonic → ℕ
slots_of_word LoadNumber = 2
slots_of_word LoadMap = 2
slots_of_word LoadCell = 2
slots_of_word m = 1

abbrev pub slots_of_body : Body → ℕ
slots_of_body (Ok (Some s)) = slots_of_word s.mnemonic
slots_of_body body = 0

abbrev pub slots_in : List Line → ℕ
slots_in [] = 0
slots_in (l ∷ ls) = slots_of_body l.body + slots_in ls

abbrev pub is_label : Name → Option Name → Bool
is_label name None = false
is_label name (Some label) = bytes_eq label name

-- the slot of the first line with this label; the first of the lines is at slot s
abbrev pub label_slot : ℕ → List Line → Name → Option ℕ
label_slot s [] name = None
label_slot s (l ∷ ls) name =
    if is_label name l.label then Some s else label_slot (s + slots_of_body l.body) ls name

-- the slot of a label
abbrev pub SlotOf : Type 0
SlotOf = Name → Option ℕ

abbrev pub has_slot : SlotOf → Option Name → Bool
has_slot slot_of None = false
has_slot slot_of (Some name) = is_some (slot_of name)

-- one of these lines has the label
abbrev pub has_label : List Line → Option Name → Bool
has_label ls label = has_slot (label_slot 0 ls) label

-- ---- the first fault within a line

abbrev pub too_long : ℕ → Option AsmFaultKind
too_long slots = if nat_lt 4096 slots then Some kind.TooLong else None

-- the fault of a line that begins at slot s; `twice` says whether an earlier line has its label
abbrev pub fault_of_body : ℕ → Bool → Body → Option AsmFaultKind
fault_of_body s twice (Err kind.Range) = if twice then Some kind.Label else Some kind.Range
fault_of_body s twice (Err e) = Some e
fault_of_body s true (Ok body) = Some kind.Label
fault_of_body s false (Ok None) = None
fault_of_body s false (Ok (Some statement)) = too_long (s + slots_of_word statement.mnemonic)

abbrev pub line_fault : List Line → Line → Option AsmFaultKind
line_fault before l = fault_of_body (slots_in before) (has_label before l.label) l.body

abbrev pub at_line : ℕ → AsmFaultKind → AsmFault
at_line n e = At n e

abbrev pub fault_or : ℕ → Option AsmFaultKind → Option AsmFault → Option AsmFault
fault_or n None later = later
fault_or n (Some e) later = Some (at_line n e)

-- the first fault in the lines that follow `before`
abbrev pub first_fault : List Line → List Line → Option AsmFault
first_fault before [] = None
first_fault before (l ∷ rest) =
    fault_or (length before + 1) (line_fault before l) (first_fault (before ++ (l ∷ [])) rest)

-- ---- jumps to labels

-- a statement, with its line and its slot
abbrev pub PlacedStatement : Type 0
PlacedStatement = the_placed.PlacedStatement Name

abbrev pub placed_body : ℕ → ℕ → Body → List PlacedStatement
placed_body n s (Ok (Some d)) = record { line = n; slot = s; statement = d } ∷ []
placed_body n s body = []

-- the statements of lines, the first of which has number n and slot s
abbrev pub placed : ℕ → ℕ → List Line → List PlacedStatement
placed n s [] = []
placed n s (l ∷ ls) = placed_body n s l.body ++ placed (n + 1) (s + slots_of_body l.body) ls

-- a signed field of k + 1 bits holds the number
abbrev pub in_field : ℕ → ℤ → Bool
in_field k z = int_le (neg_ℤ (pos (2 ^ k))) z && int_lt z (pos (2 ^ k))

abbrev pub short_distance : ℤ → Option Argument
short_distance z = if in_field 15 z then Some (Distance (Short z)) else None

abbrev pub long_distance : ℤ → Option Argument
long_distance z = if in_field 31 z then Some (Distance (Long z)) else None

-- the distance counts from the instruction after the jump
abbrev pub slots_to : SlotOf → ℕ → Name → OrAsmFault ℤ
slots_to slot_of s name = ok_or (slot_of name) kind.Label >>? λ t. Ok (pos t -ℤ pos (s + 1))

abbrev pub argument_at : SlotOf → ℕ → Given Name → OrAsmFault Argument
argument_at slot_of s (given.Argument a) = Ok a
argument_at slot_of s (given.ShortTo name) =
    slots_to slot_of s name >>? λ z. ok_or (short_distance z) kind.Range
argument_at slot_of s (given.LongTo name) =
    slots_to slot_of s name >>? λ z. ok_or (long_distance z) kind.Range

abbrev pub argument_if : SlotOf → ℕ → Option (Given Name) → OrAsmFault (Option Argument)
argument_if slot_of s None = Ok None
argument_if slot_of s (Some g) = map_ok Some (argument_at slot_of s g)

abbrev pub arguments_at : SlotOf → ℕ → UpToThree (Given Name) → OrAsmFault (UpToThree Argument)
arguments_at slot_of s g =
    let a = argument_if slot_of s g.first in
    let b = argument_if slot_of s g.second in
    let c = argument_if slot_of s g.third in
    in_turn a b c

-- the instruction with this mnemonic and these arguments; there is one, since they have its kinds
abbrev pub insn_at : Vocabulary → SlotOf → PlacedStatement → OrAsmFault Insn
insn_at v slot_of p =
    arguments_at slot_of p.slot p.statement.arguments >>? λ a.
    ok_or (v.insn_of p.statement.mnemonic a) kind.Operand

abbrev pub onto_bytes : List ℕ → BytesOrFault → BytesOrFault
onto_bytes bs (Ok more) = Ok (bs ++ more)
onto_bytes bs (Err e) = Err e

abbrev pub bytes_onto : ℕ → OrAsmFault Insn → BytesOrFault → BytesOrFault
bytes_onto n (Err e) later = Err (at_line n e)
bytes_onto n (Ok i) later = onto_bytes (encoding i) later

-- the encodings of the statements, or the fault of the first jump that has no target
abbrev pub bytes_of_placed : Vocabulary → SlotOf → List PlacedStatement → BytesOrFault
bytes_of_placed v slot_of [] = Ok []
bytes_of_placed v slot_of (p ∷ ps) =
    bytes_onto p.line (insn_at v slot_of p) (bytes_of_placed v slot_of ps)

-- ---- the whole text

abbrev pub unless_fault : Option AsmFault → BytesOrFault → BytesOrFault
unless_fault None bytes = bytes
unless_fault (Some e) bytes = Err e

abbrev pub assembly_of_lines : Vocabulary → List Line → BytesOrFault
assembly_of_lines v ls =
    unless_fault (first_fault [] ls) (bytes_of_placed v (label_slot 0 ls) (placed 1 0 ls))

-- the bytes of the text, or its fault
unfoldable pub assembly_of : Vocabulary → List ℕ → BytesOrFault
assembly_of v text = assembly_of_lines v (lines_in v text)

-- the verdict is that with an exact vocabulary, of which there is only one
abbrev pub Assembles : List ℕ → BytesOrFault → Type 0
Assembles text verdict = (v : Vocabulary) × IsExact v × (assembly_of v text ≡ verdict)

-- the text's fault, or an allocation failed
abbrev pub IsAsmFault : List ℕ → AsmFault → Type 0
IsAsmFault text e = (e ≡ Memory) ⊎ Assembles text (Err e)

-- no text has two verdicts
abbrev pub HasOneAssembly : List ℕ → Type 0
HasOneAssembly text = (a b : BytesOrFault) → Assembles text a → Assembles text b → a ≡ b

-- of at most 4096 slots
abbrev pub AssemblesAgain : List ℕ → List ℕ → Type 0
AssemblesAgain bytes text = length bytes ≤ 8 * 4096 → Assembles text (Ok bytes)
