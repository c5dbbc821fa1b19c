-- Operands read as the kinds that their instruction requires: A3 if the kind is wrong, and A5 if a
-- number doesn't fit its field.
use Rattle.std.specs.Prelude.{Option, Some, None, option_map, Ok, Err}
use Rattle.std.specs.Prelude.{Bool, true, false, not, ◌||◌, if◌then◌else◌}
use Rattle.bpf_insn.specs.declared.reg.Reg.{Reg}
use Rattle.bpf_insn.specs.declared.operand.Distance.TheVariants.{Short, Long}
use Rattle.bpf_text.specs.declared.text_fault.AsmFaultKind.TheVariants as fault
use Rattle.bpf_text.specs.declared.token.Sign.{Sign}
use Rattle.bpf_text.specs.declared.token.Sign.TheVariants.{Absent, Plus}
use Rattle.bpf_text.specs.declared.token.Figure.{Figure}
use Rattle.bpf_text.specs.declared.item.Item.{Item}
use Rattle.bpf_text.specs.declared.item.Item.TheVariants as item
use Rattle.bpf_text.specs.declared.argument.Argument.TheVariants as argument
use Rattle.bpf_text.specs.declared.argument.Argument as arguments
use Rattle.bpf_text.specs.declared.operand.Given.{Given}
use Rattle.bpf_text.specs.declared.operand.Given.TheVariants.{Argument, ShortTo, LongTo}
use Rattle.bpf_text.specs.declared.signature.OperandKind.{OperandKind}
use Rattle.bpf_text.specs.declared.signature.OperandKind.TheVariants as kind
use Rattle.bpf_text.specs.declared.three.UpToThree.{UpToThree}
use Rattle.bpf_text.specs.Items.{Items}
use Rattle.bpf_text.specs.Ranges.{imm_of, wide_of, short_of, long_of}
use Rattle.bpf_text.specs.Results.{OrAsmFault, map_ok, in_turn}
use Rattle.bpf_text.specs.Tokens.{Name}
use Rattle.bpf_text.specs.Vocabulary.{Vocabulary}

abbrev pub GivenOrFault : Type 0
GivenOrFault = OrAsmFault (Given Name)

abbrev pub if_of_kind : Bool → Option arguments.Argument → GivenOrFault
if_of_kind false a = Err fault.Operand
if_of_kind true None = Err fault.Range
if_of_kind true (Some a) = Ok (Argument a)

abbrev pub has_plus : Sign → Bool
has_plus Plus = true
has_plus s = false

-- + or - precedes the number
abbrev pub has_sign : Sign → Bool
has_sign Absent = false
has_sign s = true

abbrev pub register_given : Option Reg → GivenOrFault
register_given None = Err fault.Operand
register_given (Some r) = Ok (Argument (argument.Register r))

-- 32-bit and 64-bit numbers have no +
abbrev pub imm_given : Figure → GivenOrFault
imm_given f = if_of_kind (not (has_plus f.sign)) (option_map argument.Imm (imm_of f))

abbrev pub number_given : Figure → GivenOrFault
number_given f = if_of_kind (not (has_plus f.sign)) (option_map argument.Number (wide_of f))

-- offsets and distances have a sign
abbrev pub memory_given : Option Reg → Figure → GivenOrFault
memory_given None f = Err fault.Operand
memory_given (Some r) f = if_of_kind (has_sign f.sign) (option_map (argument.Memory r) (short_of f))

abbrev pub short_given : Figure → GivenOrFault
short_given f =
    if_of_kind (has_sign f.sign) (option_map (λ k. argument.Distance (Short k)) (short_of f))

abbrev pub long_given : Figure → GivenOrFault
long_given f =
    if_of_kind (has_sign f.sign) (option_map (λ k. argument.Distance (Long k)) (long_of f))

abbrev pub item_as : Vocabulary → OperandKind → Item Name → GivenOrFault
item_as v kind.Register (item.Name w) = register_given (v.register_named w)
item_as v kind.Source (item.Name w) = register_given (v.register_named w)
item_as v kind.Source (item.Number f) = imm_given f
item_as v kind.Imm (item.Number f) = imm_given f
item_as v kind.Number (item.Number f) = number_given f
item_as v kind.Memory (item.Memory w f) = memory_given (v.register_named w) f
item_as v kind.ShortWay (item.Name w) = Ok (ShortTo w)
item_as v kind.ShortWay (item.Number f) = short_given f
item_as v kind.LongWay (item.Name w) = Ok (LongTo w)
item_as v kind.LongWay (item.Number f) = long_given f
item_as v k i = Err fault.Operand

-- ---- all operands

-- an operand is present exactly if the kind requires one
abbrev pub item_if : Vocabulary → Option OperandKind → Option (Item Name)
    → OrAsmFault (Option (Given Name))
item_if v None None = Ok None
item_if v (Some k) (Some i) = map_ok Some (item_as v k i)
item_if v k i = Err fault.Operand

abbrev pub is_other_kind : {A : Type 0} → OrAsmFault A → Bool
is_other_kind (Err fault.Operand) = true
is_other_kind r = false

-- A3 for any operand precedes A5 for another
abbrev pub all_given : (a b c : OrAsmFault (Option (Given Name)))
    → OrAsmFault (UpToThree (Given Name))
all_given a b c =
    if is_other_kind a || (is_other_kind b || is_other_kind c) then Err fault.Operand
    else in_turn a b c

abbrev pub items_as : Vocabulary → UpToThree OperandKind → Items
    → OrAsmFault (UpToThree (Given Name))
items_as v k i =
    let a = item_if v k.first i.first in
    let b = item_if v k.second i.second in
    let c = item_if v k.third i.third in
    all_given a b c
