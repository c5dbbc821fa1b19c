-- One step at an instruction that breaks no rule. It doesn't trap, it follows an edge whose entry
-- represents the new state, and the shape allows its counter operation.
use Rattle.std.specs.Prelude.{◌≡◌, ℕ, ◌≤◌, List, Contains, None, IsSome, IfSome}
use Rattle.attrs.specs.Attributes.{Attributes}
use Rattle.bpf_insn.specs.declared.insn.Insn.{Insn}
use Rattle.bpf_insn.specs.Spelling.{IsEncodable}
use Rattle.cells.specs.declared.array.CellArray.{CellArray}
use Rattle.cells.specs.declared.event.CellOp.{CellOp}
use Rattle.cells.specs.declared.event.CellOp.TheVariants.{Load, Add}
use Rattle.cells.specs.Arrays.{AppShape, IsShape, HasCell}
use Rattle.cells.specs.Events.{CanReply}
use Rattle.bpf_semantics.specs.State.{State, HasWords, opening}
use Rattle.bpf_semantics.specs.Outcome.{Outcome, Going, Operates, Done, Trap}
use Rattle.bpf_semantics.specs.Step.{act}
use Rattle.flow_check.specs.Edges.{JumpsForward}
use Rattle.abs_value.specs.declared.state.AbsState.{AbsState}
use Rattle.abs_value.specs.States.{opening_state, join_states}
use Rattle.abs_value.specs.Covers.{IsRepresented}
use Rattle.abs_value.specs.Order.{IsStateInOrder}
use Rattle.bpf_checks.specs.Rules.{first_rule}
use Rattle.bpf_checks.specs.Transfer.{Edge, edge_to, edges, jumping, going_on}

-- ---- operations on counters

-- an allowed operation on a cell of an array with a quota
abbrev pub KeepsQuota : CellOp → Type 0
KeepsQuota Load = Unit {0}
KeepsQuota (Add n) = n ≡ 1
KeepsQuota op = ⊥

-- the cell belongs to an array of the shape, and the operation keeps the array's quota, if any
pub record IsLawful (shape : AppShape) (cell : ℕ) (op : CellOp) : Type 0 where
  pub array : CellArray
  pub there : Contains shape.arrays array
  pub has : HasCell array cell
  pub quota : (a : CellArray) → Contains shape.arrays a → HasCell a cell → IsSome a.quota
      → KeepsQuota op

-- ---- the edge of a step

-- the state is reached along one of these edges, whose entry represents it
pub record Leads (shape : AppShape) (edges : List Edge) (t : State) : Type 0 where
  pub entry : AbsState
  pub along : Contains edges (edge_to t.slot entry)
  pub represents : IsRepresented shape entry t

-- also for each reply that fits the cell
abbrev pub IsSafe : AppShape → List Edge → Outcome → Type 0
IsSafe shape edges (Going t) = Leads shape edges t
IsSafe shape edges (Operates cell op next) =
    IsLawful shape cell op
    × ((reply : ℕ) → CanReply cell op reply → Leads shape edges (next reply))
IsSafe shape edges (Done n) = n ≤ shape.releases
IsSafe shape edges Trap = ⊥

-- ---- laws

-- a step from a represented state, at an instruction that breaks no rule
abbrev pub EveryStepIsSafe : Type 0
EveryStepIsSafe =
    (shape : AppShape) (e : AbsState) (s : State) (i : Insn)
    → IsShape shape → IsEncodable i → JumpsForward i → HasWords s → IsRepresented shape e s
    → first_rule shape e i ≡ None → IsSafe shape (edges shape s.slot e i) (act shape s i)

-- a join represents all that either side represents
abbrev pub JoinRepresentsFirst : Type 0
JoinRepresentsFirst =
    (shape : AppShape) (e f : AbsState) (s : State)
    → IsRepresented shape e s → IsRepresented shape (join_states e f) s

abbrev pub JoinRepresentsSecond : Type 0
JoinRepresentsSecond =
    (shape : AppShape) (e f : AbsState) (s : State)
    → IsRepresented shape f s → IsRepresented shape (join_states e f) s

abbrev pub OpeningIsRepresented : Type 0
OpeningIsRepresented = (shape : AppShape) (a : Attributes) → IsRepresented shape opening_state
    (opening a)

-- ends that are in order stay in order
abbrev pub JumpingInOrder : Type 0
JumpingInOrder =
    (e : AbsState) (i : Insn) → IsStateInOrder e → IfSome (jumping e i) IsStateInOrder

abbrev pub GoingOnInOrder : Type 0
GoingOnInOrder =
    (shape : AppShape) (slot : ℕ) (e : AbsState) (i : Insn)
    → IsStateInOrder e → IfSome (going_on shape slot e i) IsStateInOrder
