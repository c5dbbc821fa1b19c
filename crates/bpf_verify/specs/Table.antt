-- A table of facts about each slot, from any source. If under it no slot breaks a rule, and each
-- edge preserves it, the program is accepted. The sweep's entries may be narrower.
use Rattle.std.specs.Prelude.{◌≡◌, ℕ, ◌<◌, ◌≤◌, List, length, Some, None, Bool, true}
use Rattle.std.specs.List.{AllByRecursion}
use Rattle.bpf_insn.specs.declared.insn.Insn.{Insn}
use Rattle.bpf_insn.specs.Program.{Program, at}
use Rattle.bpf_semantics.specs.Memory.{stack_size}
use Rattle.cells.specs.Arrays.{AppShape}
use Rattle.abs_value.specs.declared.value.Abs.{Abs}
use Rattle.abs_value.specs.declared.value.Abs.TheVariants.{Unusable, Num, Ctx}
use Rattle.abs_value.specs.declared.state.AbsState.{AbsState}
use Rattle.abs_value.specs.Numbers.{least, most}
use Rattle.abs_value.specs.Stack.{is_set}
use Rattle.abs_value.specs.States.{register_at, value_at, opening_state}
use Rattle.bpf_checks.specs.Rules.{first_rule}
use Rattle.bpf_checks.specs.Transfer.{Edge, edges}

-- the facts about a slot: a value for each register, and which bytes of the stack are set
pub record SlotFacts : Type 0 where
  pub registers : List Abs
  pub set : ℕ → Bool

-- the second range is within the first, and its ends are in order
abbrev pub LiesIn : ℕ → ℕ → ℕ → ℕ → Type 0
LiesIn from to lo hi = (from ≤ lo) × (lo ≤ hi) × (hi ≤ to)

-- the first value represents all that the second represents
abbrev pub IsWider : Abs → Abs → Type 0
IsWider Unusable a = Unit {0}
IsWider (Num c) (Num a) = LiesIn (least c) (most c) (least a) (most a)
IsWider (Ctx c) (Ctx a) = LiesIn c.lo c.hi a.lo a.hi
IsWider c a = c ≡ a

-- the entry knows at least the facts
pub record HasFacts (facts : SlotFacts) (e : AbsState) : Type 0 where
  pub long : length e.registers ≡ 11
  pub wide : length e.stack ≡ 64
  pub each : (r : ℕ) → IsWider (register_at facts.registers r) (value_at e r)
  pub bytes : (place : ℕ) → place < stack_size → facts.set place ≡ true
      → is_set e.stack place ≡ true

-- each edge preserves the facts, and no slot breaks a rule in an entry that knows at least its
-- facts
pub record IsTable (p : Program) (shape : AppShape) (table : ℕ → SlotFacts) : Type 0 where
  pub start : HasFacts (table 0) opening_state
  pub passes : (s : ℕ) (e : AbsState) (i : Insn) → at p s ≡ Some i → HasFacts (table s) e
      → first_rule shape e i ≡ None
  pub leads : (s : ℕ) (e : AbsState) (i : Insn) → at p s ≡ Some i → HasFacts (table s) e
      → AllByRecursion (λ (d : Edge). HasFacts (table d.target) d.entry) (edges shape s e i)
