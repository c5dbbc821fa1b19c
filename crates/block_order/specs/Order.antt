-- When one program is another one in order: each instruction except JAs has a slot of its own
-- there, and leads to the same instructions as before.
use Rattle.std.specs.Prelude.{◌≡◌, ℕ, ◌+◌, ◌⊎◌, ℤ, List, Option, Some, slice_get}
use Rattle.bpf_insn.specs.declared.operand.Distance.{Distance}
use Rattle.bpf_insn.specs.declared.insn.Insn.{Insn}
use Rattle.bpf_insn.specs.declared.insn.Insn.TheVariants.{Jump, JumpIf, Exit}
use Rattle.bpf_insn.specs.Program.{Program, ◌>>=◌, at, landing, slots_moved}
use Rattle.flow_check.specs.Edges.{target_of, next_of}
use Rattle.flow_check.specs.Fault.{IsRead}
use Rattle.flow_check.specs.Flow.{IsAcceptedAs}

-- the new slots of the old program's instructions, by their old slots; none if an instruction was
-- dropped
abbrev pub Places : Type 0
Places = ℕ → Option ℕ

-- new slots that are kept in a list
abbrev pub place_at : List (Option ℕ) → ℕ → Option ℕ
place_at places s = slice_get places s >>= λ t. t

-- a JA at slot t lands on slot u
abbrev pub IsJump : Program → ℕ → ℕ → Type 0
IsJump q t u = (d : Distance) × (at q t ≡ Some (Jump d)) × (landing t (slots_moved d) ≡ Some u)

-- slot t is slot u, or one JA leads from there to it
abbrev pub LeadsOnto : Program → ℕ → ℕ → Type 0
LeadsOnto q t u = (t ≡ u) ⊎ IsJump q t u

-- slot t is slot u, or the JA at t leads to it
abbrev pub GoesOnAt : Places → Program → ℕ → ℕ → Type 0
GoesOnAt places q t s = (u : ℕ) × (places s ≡ Some u) × LeadsOnto q t u

-- slot t of the new program leads to the instruction of slot s in the old one

-- j is the same conditional jump, with any offset
abbrev pub IsSameJump : Insn → Insn → Type 0
IsSameJump (JumpIf bits condition left right offset) j =
    (moved : ℤ) × (j ≡ JumpIf bits condition left right moved)
IsSameJump i j = ⊥

-- the conditional jump of slot s is at slot t, and lands on the new slot of its target
pub record IsJumpKept (places : Places) (q : Program) (s t : ℕ) (i : Insn) : Type 0 where
  pub moved : Insn
  pub moved_is : at q t ≡ Some moved
  pub same : IsSameJump i moved
  pub target : ℕ
  pub landed : target_of s i ≡ Some target
  pub place : ℕ
  pub placed : places target ≡ Some place
  pub lands : target_of t moved ≡ Some place

-- the instruction of slot s is at slot t and continues as before; for a JA, slot t only has to lead
-- to its target
abbrev pub IsKeptAs : Places → Program → ℕ → ℕ → Insn → Type 0
IsKeptAs places q s t (Jump d) =
    (target : ℕ) × (landing s (slots_moved d) ≡ Some target) × GoesOnAt places q t target
IsKeptAs places q s t (JumpIf bits condition left right offset) =
    IsJumpKept places q s t (JumpIf bits condition left right offset)
    × GoesOnAt places q (t + 1) (s + 1)
IsKeptAs places q s t Exit = at q t ≡ Some Exit
IsKeptAs places q s t i = (at q t ≡ Some i) × GoesOnAt places q (next_of t i) (next_of s i)

abbrev pub IsKeptAt : Places → Program → Program → ℕ → ℕ → Type 0
IsKeptAt places p q s t = (i : Insn) × (at p s ≡ Some i) × IsKeptAs places q s t i

-- neither a jump nor EXIT
abbrev pub IsStraight : Insn → Type 0
IsStraight (Jump d) = ⊥
IsStraight (JumpIf bits condition left right offset) = ⊥
IsStraight Exit = ⊥
IsStraight i = Unit {0}

-- the instruction is at slot t, and continues at the instruction that followed slot s
abbrev pub IsStraightKept : Places → Program → ℕ → ℕ → Insn → Type 0
IsStraightKept places q s t i =
    (at q t ≡ Some i) × GoesOnAt places q (next_of t i) (next_of s i)

-- ---- runs of JAs

-- not a JA
abbrev pub IsNoJump : Insn → Type 0
IsNoJump (Jump d) = ⊥
IsNoJump i = Unit {0}

-- following JAs from the slot ends at another instruction, and not in a loop
pub data LeavesJumps (p : Program) : ℕ → Type 0 where
  other : {s : ℕ} {i : Insn} → at p s ≡ Some i → IsNoJump i → LeavesJumps p s
  jumped : {s t : ℕ} {d : Distance} → at p s ≡ Some (Jump d) → landing s (slots_moved d) ≡ Some t
      → LeavesJumps p t → LeavesJumps p s

-- ---- the whole program

-- the entry is still at slot 0, and each instruction that has a new slot is kept there. So each
-- instruction that a run may reach has a new slot. A loop of JAs, which needs no code, has none
pub record IsOrderOf (places : Places) (p q : Program) : Type 0 where
  pub start : places 0 ≡ Some 0
  pub kept : (s t : ℕ) → places s ≡ Some t → IsKeptAt places p q s t
  pub leaves : (s t : ℕ) → places s ≡ Some t → LeavesJumps p s

-- bytes that the flow check accepts, of the same program in order: all edges lead forward, and all
-- instructions are reached
pub record HasOrder (p : Program) (ordered : List ℕ) : Type 0 where
  pub new : Program
  pub accepted : IsAcceptedAs ordered new
  pub places : Places
  pub order : IsOrderOf places p new

-- the bytes of a program, and those of the program in order
pub record IsOrdered (bytes ordered : List ℕ) : Type 0 where
  pub old : Program
  pub read : IsRead bytes old
  pub order : HasOrder old ordered
