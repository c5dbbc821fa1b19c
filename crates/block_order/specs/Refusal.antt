-- Why a program isn't put in order: a reached edge leads onto no instruction, the edges close a
-- cycle, or the result is too long.
use Rattle.std.specs.Prelude.{◌≡◌, ℕ, ◌<◌, ◌≤◌, ◌⊎◌, List, length, Some, None, IsSome}
use Rattle.bpf_insn.specs.declared.insn.Insn.{Insn}
use Rattle.bpf_insn.specs.Program.{Program, at}
use Rattle.flow_check.specs.declared.flow_fault.FlowRule.{FlowRule}
use Rattle.flow_check.specs.declared.flow_fault.FlowRule.TheVariants.{BackJump, Outside, InsideWide}
use Rattle.flow_check.specs.declared.flow_fault.FlowRule.TheVariants.{FallsOff, Empty, TooLong}
use Rattle.flow_check.specs.declared.flow_fault.FlowRule.TheVariants.{Insn as NoInsn}
use Rattle.flow_check.specs.declared.flow_fault.FlowFault.{FlowFault}
use Rattle.flow_check.specs.declared.flow_fault.FlowFault.TheVariants.{Rule, Memory}
use Rattle.flow_check.specs.Edges.{jump_of, target_of, IsOutside, IsInsideWide, IsFallingOff}
use Rattle.flow_check.specs.Fault.{IsFlowFault, IsRead, rule_number}
use Rattle.block_order.specs.Reach.{ReachedFrom}

-- ---- faults of each order

-- it jumps below slot 0
abbrev pub IsBelow : Program → ℕ → Type 0
IsBelow p s = (i : Insn) × (at p s ≡ Some i) × IsSome (jump_of i) × (target_of s i ≡ None)

-- an edge from the slot leads onto no instruction
abbrev pub IsStray : Program → ℕ → FlowRule → Type 0
IsStray p s BackJump = IsBelow p s
IsStray p s Outside = IsOutside p s
IsStray p s InsideWide = IsInsideWide p s
IsStray p s FallsOff = IsFallingOff p s
IsStray p s rule = ⊥

-- the instruction doesn't jump, or jumps onto an instruction
pub record LandsWithin (p : Program) (s : ℕ) : Type 0 where
  pub below : ¬ IsBelow p s
  pub outside : ¬ IsOutside p s
  pub inside : ¬ IsInsideWide p s

-- each edge from the slot leads onto an instruction
abbrev pub StaysWithin : Program → ℕ → Type 0
StaysWithin p s = (rule : FlowRule) → ¬ IsStray p s rule

-- it jumps back to a slot from which it is reached again
abbrev pub ClosesCycle : Program → ℕ → Type 0
ClosesCycle p s =
    (i : Insn) × (t : ℕ) × (at p s ≡ Some i) × (target_of s i ≡ Some t) × (t ≤ s)
    × ReachedFrom p t s

-- ---- which fault is returned

-- the rule with the lowest number, among those by which an edge leads onto no instruction
pub record IsStrayBy (p : Program) (s : ℕ) (rule : FlowRule) : Type 0 where
  pub strays : IsStray p s rule
  pub lowest : (other : FlowRule) → rule_number other < rule_number rule → ¬ IsStray p s other

-- the lowest reached slot with an edge that leads onto no instruction
pub record IsFirstStray (bytes : List ℕ) (s : ℕ) (rule : FlowRule) : Type 0 where
  pub program : Program
  pub read : IsRead bytes program
  pub reached : ReachedFrom program 0 s
  pub breaks : IsStrayBy program s rule
  pub before : (t : ℕ) → t < s → ReachedFrom program 0 t → StaysWithin program t

-- all reached edges lead onto instructions, and this is the lowest jump that closes a cycle
pub record IsFirstCycle (bytes : List ℕ) (s : ℕ) : Type 0 where
  pub program : Program
  pub read : IsRead bytes program
  pub within : (t : ℕ) → ReachedFrom program 0 t → StaysWithin program t
  pub reached : ReachedFrom program 0 s
  pub closes : ClosesCycle program s
  pub before : (t : ℕ) → t < s → ReachedFrom program 0 t → ¬ ClosesCycle program t

-- all reached edges lead onto instructions, and close no cycle
pub record IsOrderable (bytes : List ℕ) : Type 0 where
  pub program : Program
  pub read : IsRead bytes program
  pub within : (t : ℕ) → ReachedFrom program 0 t → StaysWithin program t
  pub acyclic : (t : ℕ) → ReachedFrom program 0 t → ¬ ClosesCycle program t

-- when each fault is returned. Unreadable bytes have the flow check's fault. F7 means that the
-- bytes are too long, or that only the length of their order may be the reason; that length isn't
-- compared here. Nothing is claimed if memory runs out
abbrev pub IsOrderFault : List ℕ → FlowFault → Type 0
IsOrderFault bytes (Rule s Empty) = IsFlowFault bytes (Rule s Empty)
IsOrderFault bytes (Rule s TooLong) = (s ≡ 0) × ((32768 < length bytes) ⊎ IsOrderable bytes)
IsOrderFault bytes (Rule s (NoInsn e)) = IsFlowFault bytes (Rule s (NoInsn e))
IsOrderFault bytes (Rule s BackJump) = IsFirstStray bytes s BackJump ⊎ IsFirstCycle bytes s
IsOrderFault bytes (Rule s rule) = IsFirstStray bytes s rule
IsOrderFault bytes Memory = Unit {0}
