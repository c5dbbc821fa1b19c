-- The entry of each slot, and which programs are accepted.
use Rattle.std.specs.Prelude.{◌≡◌, ℕ, zero, suc, ◌<◌, List, [], ◌∷◌, ◌++◌, Option, Some, None}
use Rattle.std.specs.Prelude.{◌==◌, if◌then◌else◌}
use Rattle.bpf_insn.specs.declared.insn.Insn.{Insn}
use Rattle.bpf_insn.specs.Program.{Program, at}
use Rattle.bpf_semantics.specs.Program.{ShapedProgram, shaped}
use Rattle.cells.specs.Arrays.{AppShape}
use Rattle.abs_value.specs.declared.state.AbsState.{AbsState}
use Rattle.abs_value.specs.States.{join_states, opening_state}
use Rattle.abs_value.specs.Order.{IsStateInOrder}
use Rattle.bpf_checks.specs.declared.refusal.VerifierRule.{VerifierRule}
use Rattle.bpf_checks.specs.declared.refusal.Refusal.{Refusal}
use Rattle.bpf_checks.specs.declared.refusal.Refusal.TheVariants as refusal
use Rattle.bpf_checks.specs.Rules.{first_rule}
use Rattle.bpf_checks.specs.Transfer.{Edge, edges}

-- ---- the entry of a slot: the join over its incoming edges, in the order of their slots

-- the entries on the edges that lead to slot m
abbrev pub to_place : ℕ → List Edge → List AbsState
to_place m [] = []
to_place m (d ∷ ds) = if d.target == m then d.entry ∷ to_place m ds else to_place m ds

abbrev pub joined : AbsState → List AbsState → AbsState
joined e [] = e
joined e (f ∷ fs) = joined (join_states e f) fs

-- `None` without edges
abbrev pub join_all : List AbsState → Option AbsState
join_all [] = None
join_all (e ∷ es) = Some (joined e es)

-- the edges from a slot that aren't dropped; a slot without an entry has none
abbrev pub edges_of : AppShape → ℕ → Option AbsState → Option Insn → List Edge
edges_of shape s (Some e) (Some i) = edges shape s e i
edges_of shape s e i = []

-- the entries on the edges to slot m from slots before k; a run starts at slot 0
unfoldable pub incoming : ShapedProgram → ℕ → ℕ → List AbsState
incoming p zero m = if m == 0 then opening_state ∷ [] else []
incoming p (suc k) m =
    incoming p k m ++ to_place m (edges_of p.shape k (join_all (incoming p k k)) (at p.code k))

-- a slot's entry: the join over all edges that lead to it
abbrev pub entry_of : ShapedProgram → ℕ → Option AbsState
entry_of p s = join_all (incoming p s s)

-- ---- accepted and refused

-- the slot breaks no rule; without an entry it isn't judged
abbrev pub IsFine : ShapedProgram → ℕ → Type 0
IsFine p s =
    (e : AbsState) (i : Insn) → entry_of p s ≡ Some e → at p.code s ≡ Some i
    → first_rule p.shape e i ≡ None

-- no slot breaks a rule
abbrev pub IsAccepted : Program → AppShape → Type 0
IsAccepted code shape = (s : ℕ) → IsFine (shaped code shape) s

-- the slot has an entry, for which this is the first rule that it breaks
pub record Fails (p : ShapedProgram) (s : ℕ) (rule : VerifierRule) : Type 0 where
  pub entry : AbsState
  pub insn : Insn
  pub entry_is : entry_of p s ≡ Some entry
  pub insn_is : at p.code s ≡ Some insn
  pub rule_is : first_rule p.shape entry insn ≡ Some rule

-- the first slot that breaks a rule, and its first rule
pub record IsRefusedAt (p : ShapedProgram) (s : ℕ) (rule : VerifierRule) : Type 0 where
  pub before : (k : ℕ) → k < s → IsFine p k
  pub fails : Fails p s rule

-- a refusal by a rule names the first slot that breaks one, and its first rule; an allocation may
-- fail at any time
abbrev pub IsRefusal : Program → AppShape → Refusal → Type 0
IsRefusal code shape (refusal.Rule s rule) = IsRefusedAt (shaped code shape) s rule
IsRefusal code shape refusal.Memory = Unit {0}

-- a rule, broken at this slot
abbrev pub FailsAt : ℕ → Refusal → Type 0
FailsAt k (refusal.Rule s rule) = s ≡ k
FailsAt k refusal.Memory = ⊥

-- ---- no program has two verdicts

-- it is accepted, or refused at one slot by one rule
pub record ProgramHasOneVerdict (code : Program) (shape : AppShape) : Type 0 where
  pub either : (s : ℕ) (rule : VerifierRule) → IsAccepted code shape
      → ¬ IsRefusedAt (shaped code shape) s rule
  pub refusal : (s t : ℕ) (rule other : VerifierRule) → IsRefusedAt (shaped code shape) s rule
      → IsRefusedAt (shaped code shape) t other → (s ≡ t) × (rule ≡ other)

-- ---- ends are in order

-- the ends of all values in each entry are in order
abbrev pub HasEndsInOrder : ShapedProgram → Type 0
HasEndsInOrder p = (s : ℕ) (e : AbsState) → entry_of p s ≡ Some e → IsStateInOrder e
