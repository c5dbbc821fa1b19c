-- The comment's text on an instruction's registers, and on the stack slot that it reads.
use Rattle.std.specs.Prelude.{ℕ, ℤ, List, [], ◌∷◌, ◌++◌, codes, Bool, true, false}
use Rattle.std.specs.Prelude.{◌&&◌, ◌||◌, not, if◌then◌else◌}
use Rattle.std.specs.Prelude.{Option, Some, None}
use Rattle.std.specs.Fmt.{decimal}
use Rattle.bpf_insn.specs.declared.insn.Insn.{Insn}
use Rattle.bpf_insn.specs.declared.insn.Insn.TheVariants.{Load}
use Rattle.bpf_insn.specs.declared.operand.LoadKind.{LoadKind}
use Rattle.bpf_insn.specs.declared.reg.Reg.{Reg}
use Rattle.bpf_insn.specs.declared.reg.Reg.TheVariants.{R0, R1, R2, R3, R4, R5, R6, R7, R8, R9, R10}
use Rattle.bpf_insn.specs.Table.{number_of}
use Rattle.bpf_text.specs.Listing.{with_sign}
use Rattle.bpf_semantics.specs.Reads.{load_count}
use Rattle.cells.specs.Arrays.{AppShape}
use Rattle.abs_value.specs.declared.state.AbsState.{AbsState}
use Rattle.abs_value.specs.declared.value.Abs.{Abs}
use Rattle.abs_value.specs.Stack.{loaded_from}
use Rattle.abs_value.specs.States.{value_of}
use Rattle.bpf_checks.specs.Memory.{stack_place}
use Rattle.why_refused_program.specs.declared.reads.ReadRegisters.{ReadRegisters}
use Rattle.why_refused_program.specs.declared.way.Way.{Way}
use Rattle.why_refused_program.specs.Reads.{is_among}
use Rattle.why_refused_program.specs.Values.{value_text}
use Rattle.why_refused_program.specs.Way.{changes_on_way}

abbrev pub all_registers : List Reg
all_registers = R0 ∷ R1 ∷ R2 ∷ R3 ∷ R4 ∷ R5 ∷ R6 ∷ R7 ∷ R8 ∷ R9 ∷ R10 ∷ []

-- a register that is read, or that changed on the edge to the instruction
abbrev pub is_shown : ReadRegisters → Way → Reg → Bool
is_shown reads way r = is_among r reads || changes_on_way way r

abbrev pub register_word : Reg → List ℕ
register_word r = codes "r" ++ decimal (number_of r)

abbrev pub register_part : AppShape → AbsState → Reg → List ℕ
register_part shape e r = register_word r ++ codes " " ++ value_text shape (value_of e r)

-- a slot is followed by a blank, and a register by a comma
abbrev pub divider_of : Bool → List ℕ
divider_of true = codes " "
divider_of false = codes ", "

abbrev pub register_if : AppShape → AbsState → ReadRegisters → Way → Bool → Reg → List ℕ
register_if shape e reads way first r =
    if is_shown reads way r then divider_of first ++ register_part shape e r else []

-- the registers of a list that are shown; `first` says whether none is shown before them
abbrev pub registers_text : AppShape → AbsState → ReadRegisters → Way → Bool → List Reg → List ℕ
registers_text shape e reads way first [] = []
registers_text shape e reads way first (r ∷ rs) =
    register_if shape e reads way first r
    ++ registers_text shape e reads way (first && not (is_shown reads way r)) rs

-- memory in the instruction's form, `[r10-8]`
abbrev pub memory_text : Reg → ℤ → List ℕ
memory_text base offset = codes "[" ++ register_word base ++ with_sign offset ++ codes "]"

abbrev pub slot_name : Reg → ℤ → List ℕ
slot_name src offset = codes ", " ++ memory_text src offset ++ codes " "

abbrev pub slot_part : AppShape → Reg → ℤ → Abs → List ℕ
slot_part shape src offset v = slot_name src offset ++ value_text shape v

abbrev pub loaded_text : AppShape → AbsState → LoadKind → Reg → ℤ → Option ℕ → List ℕ
loaded_text shape e kind src offset None = []
loaded_text shape e kind src offset (Some place) =
    slot_part shape src offset (loaded_from e.stack place kind)

-- what a load from the stack reads
abbrev pub found_in_stack : AppShape → AbsState → LoadKind → Reg → ℤ → List ℕ
found_in_stack shape e kind src offset =
    loaded_text shape e kind src offset (stack_place (value_of e src) offset (load_count kind))

abbrev pub stack_text : AppShape → AbsState → Insn → List ℕ
stack_text shape e (Load kind dst src offset) = found_in_stack shape e kind src offset
stack_text shape e i = []
