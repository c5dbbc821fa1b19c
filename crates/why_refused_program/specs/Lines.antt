-- A program with what is known before each instruction: its listing, with a remark on each line up
-- to the refused slot, and none after it.
use Rattle.std.specs.Prelude.{◌≡◌, ℕ, ◌-◌, max, List, [], ◌∷◌, ◌++◌, codes, length, replicate}
use Rattle.std.specs.Prelude.{Option, Some, None, nat_le, true}
use Rattle.std.specs.List.{AllByRecursion, list_all}
use Rattle.std.specs.Fmt.{decimal}
use Rattle.bpf_insn.specs.declared.insn.Insn.{Insn}
use Rattle.bpf_insn.specs.Program.{Program, layout}
use Rattle.bpf_text.specs.Listing.{bare_line}
use Rattle.bpf_text.specs.Remarks.{IsRemark, RemarkedInsn, remarked_listing}
use Rattle.cells.specs.Arrays.{AppShape}
use Rattle.flow_check.specs.Edges.{next_of}
use Rattle.bpf_semantics.specs.Program.{ShapedProgram, shaped}
use Rattle.bpf_verify.specs.Accepted.{entry_of, IsAccepted, IsRefusedAt}
use Rattle.abs_value.specs.declared.state.AbsState.{AbsState}
use Rattle.bpf_checks.specs.Rules.{first_rule}
use Rattle.bpf_checks.specs.declared.refusal.VerifierRule.{VerifierRule}
use Rattle.bpf_checks.specs.declared.refusal.Refusal.{Refusal}
use Rattle.bpf_checks.specs.declared.refusal.Refusal.TheVariants as refusal
use Rattle.why_refused_program.specs.declared.way.Way.{Way}
use Rattle.why_refused_program.specs.RegisterTexts.{registers_text, all_registers, stack_text}
use Rattle.why_refused_program.specs.Reads.{read_registers}
use Rattle.why_refused_program.specs.RefusedPlace.{cited_rule}
use Rattle.why_refused_program.specs.Way.{still, way_past}

-- ---- one place

abbrev pub state_text : AppShape → AbsState → Insn → Way → List ℕ
state_text shape e i way =
    registers_text shape e (read_registers i) way true all_registers ++ stack_text shape e i

-- what is known before the instruction; or the rule that it breaks, and why
abbrev pub shown_text : AppShape → AbsState → Insn → Way → Option VerifierRule → (why : List ℕ)
    → List ℕ
shown_text shape e i way None why = state_text shape e i way
shown_text shape e i way (Some rule) why = codes " " ++ cited_rule rule why

abbrev pub shown_of_insn : AppShape → AbsState → Insn → Way → (why : List ℕ) → List ℕ
shown_of_insn shape e i way why = shown_text shape e i way (first_rule shape e i) why

abbrev pub comment : AppShape → ℕ → Option AbsState → Insn → Way → (why : List ℕ) → List ℕ
comment shape s None i way why = codes "no run comes here"
comment shape s (Some e) i way why =
    decimal s ++ codes ":" ++ shown_of_insn shape e i way why

-- a comment, with some words about a broken rule
abbrev pub HasComment : AppShape → ℕ → Option AbsState → Insn → Way → List ℕ → Type 0
HasComment shape s entry i way text =
    (why : List ℕ) × (text ≡ comment shape s entry i way why)

-- comments begin in one column, 22 characters in, or a blank after a longer line
abbrev pub pad_to_comment : ℕ → List ℕ
pad_to_comment n = replicate (max (22 - n) 1) 32

abbrev pub padded_line : Insn → List ℕ
padded_line i = bare_line i ++ pad_to_comment (length (bare_line i))

abbrev pub as_comment : List ℕ → List ℕ → List ℕ
as_comment line text = pad_to_comment (length line) ++ codes "; " ++ text

-- a line followed by a comment
abbrev pub line_with : Insn → List ℕ → List ℕ
line_with i text = bare_line i ++ as_comment (bare_line i) text ++ codes "\n"

-- no byte is below that of a blank
pub record IsPlain (text : List ℕ) : Type 0 where
  pub plain : list_all (λ c. nat_le 32 c) text ≡ true

-- appends the line of an instruction
pub record AddsLine (shape : AppShape) (s : ℕ) (entry : Option AbsState) (i : Insn) (way : Way)
    (old new : List ℕ) : Type 0 where
  pub why : List ℕ
  pub plain : IsPlain (comment shape s entry i way why)
  pub text_is : new ≡ old ++ line_with i (comment shape s entry i way why)

-- ---- place by place

-- after a refused place nothing is known
abbrev pub remark_at : ShapedProgram → (why : List ℕ) → Option Way → ℕ → Insn → List ℕ
remark_at p why None s i = []
remark_at p why (Some way) s i =
    as_comment (bare_line i) (comment p.shape s (entry_of p s) i way why)

abbrev pub way_unless : Option VerifierRule → Way → Option Way
way_unless None way = Some way
way_unless (Some rule) way = None

abbrev pub way_past_entry : AppShape → ℕ → Option AbsState → Insn → Way
way_past_entry shape s None i = still
way_past_entry shape s (Some e) i = way_past shape s e i

abbrev pub way_from : AppShape → ℕ → Option AbsState → Insn → Option Way
way_from shape s None i = Some still
way_from shape s (Some e) i = way_unless (first_rule shape e i) (way_past shape s e i)

abbrev pub way_on : ShapedProgram → Option Way → ℕ → Insn → Option Way
way_on p None s i = None
way_on p (Some way) s i = way_from p.shape s (entry_of p s) i

-- the instructions from slot s on, each with its remark
abbrev pub lines_from : ShapedProgram → (why : List ℕ) → Option Way → ℕ → List Insn
    → List RemarkedInsn
lines_from p why way s [] = []
lines_from p why way s (i ∷ is) =
    record { insn = i; remark = remark_at p why way s i }
    ∷ lines_from p why (way_on p way s i) (next_of s i) is

abbrev pub AreRemarks : List RemarkedInsn → Type 0
AreRemarks lines = AllByRecursion (λ l. IsRemark l.remark) lines

-- ---- the whole

-- a program's listing with these remarks; `why` has the words about the rule that refuses it
pub record IsExplained (p : ShapedProgram) (text : List ℕ) : Type 0 where
  pub insns : List Insn
  pub code_is : p.code ≡ layout insns
  pub why : List ℕ
  pub remarks : AreRemarks (lines_from p why (Some still) 0 insns)
  pub text_is : text ≡ remarked_listing (lines_from p why (Some still) 0 insns)

-- accepted, or refused by this rule
abbrev pub IsFinding : Program → AppShape → Option Refusal → Type 0
IsFinding code shape None = IsAccepted code shape
IsFinding code shape (Some (refusal.Rule s rule)) = IsRefusedAt (shaped code shape) s rule
IsFinding code shape (Some refusal.Memory) = ⊥

-- ---- on the way through a program

-- the instructions before a slot, and those from it on
pub record WalkParts (code : Program) (slot : ℕ) : Type 0 where
  pub front : List Insn
  pub rest : List Insn
  pub code_is : code ≡ layout (front ++ rest)
  pub slot_is : slot ≡ length (layout front)

-- the text so far, with the lines from the slot on, is the whole
pub record ExplainsUpTo (p : ShapedProgram) (why : List ℕ) (way : Option Way) (slot : ℕ)
    (text : List ℕ) : Type 0 where
  pub parts : WalkParts p.code slot
  pub text_is :
      text ++ remarked_listing (lines_from p why way slot parts.rest)
      ≡ remarked_listing (lines_from p why (Some still) 0 (parts.front ++ parts.rest))
  pub remarks :
      AreRemarks (lines_from p why way slot parts.rest)
      → AreRemarks (lines_from p why (Some still) 0 (parts.front ++ parts.rest))
