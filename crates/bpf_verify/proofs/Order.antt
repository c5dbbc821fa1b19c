-- Each entry is made so that the ends of all its values are in order.
use Rattle.std.proofs.Common.{◌≡◌, ℕ, zero, suc, List, [], ◌∷◌, ◌++◌}
use Rattle.std.proofs.Common.{Option, Some, None, IfSome, Bool, true, false, subst}
use Rattle.std.specs.Prelude.{if◌then◌else◌, ◌==◌}
use Rattle.std.proofs.lemmas.Option.{same_Some, none-some}
use Rattle.bpf_insn.specs.declared.insn.Insn.{Insn}
use Rattle.bpf_insn.specs.Program.{at}
use Rattle.bpf_semantics.specs.Program.{ShapedProgram}
use Rattle.cells.specs.Arrays.{AppShape}
use Rattle.flow_check.specs.Edges.{target_of, next_target}
use Rattle.abs_value.specs.declared.state.AbsState.{AbsState}
use Rattle.abs_value.specs.States.{join_states, opening_state}
use Rattle.abs_value.specs.Order.{IsStateInOrder, OpeningInOrder, StateJoinsInOrder}
use Rattle.bpf_checks.specs.Transfer.{Edge, edge, edges, jumping, going_on}
use Rattle.bpf_checks.specs.Sound.{JumpingInOrder, GoingOnInOrder}
use Rattle.bpf_verify.specs.Accepted.{to_place, joined, join_all, edges_of}
use Rattle.bpf_verify.specs.Accepted.{incoming, entry_of, HasEndsInOrder}

AllHave : List AbsState → Type 0
AllHave [] = Unit {0}
AllHave (e ∷ es) = IsStateInOrder e × AllHave es

EdgesHave : List Edge → Type 0
EdgesHave [] = Unit {0}
EdgesHave (d ∷ ds) = IsStateInOrder d.entry × EdgesHave ds

all_append : (es fs : List AbsState) → AllHave es → AllHave fs → AllHave (es ++ fs)
unfolding AllHave
all_append [] fs h k = k
all_append (e ∷ es) fs h k = (h.0, all_append es fs h.1 k)

edges_append : (ds fs : List Edge) → EdgesHave ds → EdgesHave fs → EdgesHave (ds ++ fs)
unfolding EdgesHave
edges_append [] fs h k = k
edges_append (d ∷ ds) fs h k = (h.0, edges_append ds fs h.1 k)

edge_has : (t : Option ℕ) (o : Option AbsState) → IfSome o IsStateInOrder → EdgesHave (edge t o)
unfolding EdgesHave
edge_has (Some t) (Some e) h = (h, tt)
edge_has (Some t) None h = tt
edge_has None o h = tt

if_has : (b : Bool) (e : AbsState) (es : List AbsState) → IsStateInOrder e → AllHave es
    → AllHave (if b then e ∷ es else es)
unfolding AllHave
if_has true e es h k = (h, k)
if_has false e es h k = k

to_place_has : (m : ℕ) (ds : List Edge) → EdgesHave ds → AllHave (to_place m ds)
unfolding EdgesHave AllHave
to_place_has m [] h = tt
to_place_has m (d ∷ ds) h =
    if_has (d.target == m) d.entry (to_place m ds) h.0 (to_place_has m ds h.1)

some_has : (o : Option AbsState) (e : AbsState) → IfSome o IsStateInOrder → o ≡ Some e
    → IsStateInOrder e
some_has None e h is = absurd (none-some e is)
some_has (Some f) e h is = subst IsStateInOrder (same_Some _ _ is) h

module _ (opening : OpeningInOrder) (meetings : StateJoinsInOrder) (jumps : JumpingInOrder)
    (goes : GoingOnInOrder) where
  joined_has : (e : AbsState) (es : List AbsState) → IsStateInOrder e → AllHave es
      → IsStateInOrder (joined e es)
  unfolding AllHave
  joined_has e [] h k = h
  joined_has e (f ∷ fs) h k = joined_has (join_states e f) fs (meetings e f h k.0) k.1

  join_all_has : (es : List AbsState) → AllHave es → IfSome (join_all es) IsStateInOrder
  unfolding AllHave
  join_all_has [] h = tt
  join_all_has (e ∷ es) h = joined_has e es h.0 h.1

  edges_have : (shape : AppShape) (s : ℕ) (e : AbsState) (i : Insn) → IsStateInOrder e
      → EdgesHave (edges shape s e i)
  unfolding edges
  edges_have shape s e i h = edges_append (edge (target_of s i) (jumping e i))
      (edge (next_target s i) (going_on shape s e i))
      (edge_has (target_of s i) (jumping e i) (jumps e i h))
      (edge_has (next_target s i) (going_on shape s e i) (goes shape s e i h))

  edges_of_have : (shape : AppShape) (s : ℕ) (o : Option AbsState) (w : Option Insn)
      → IfSome o IsStateInOrder → EdgesHave (edges_of shape s o w)
  unfolding EdgesHave
  edges_of_have shape s (Some e) (Some i) h = edges_have shape s e i h
  edges_of_have shape s (Some e) None h = tt
  edges_of_have shape s None w h = tt

  incoming_have : (p : ShapedProgram) (k m : ℕ) → AllHave (incoming p k m)
  unfolding incoming AllHave
  incoming_have p zero m = if_has (m == 0) opening_state [] opening tt
  incoming_have p (suc k) m =
      all_append (incoming p k m)
      (to_place m (edges_of p.shape k (join_all (incoming p k k)) (at p.code k)))
      (incoming_have p k m)
      (to_place_has m (edges_of p.shape k (join_all (incoming p k k)) (at p.code k))
      (edges_of_have p.shape k (join_all (incoming p k k)) (at p.code k)
      (join_all_has (incoming p k k) (incoming_have p k k))))

  pub ends_in_order : (p : ShapedProgram) → HasEndsInOrder p
  ends_in_order p s e is =
      some_has (entry_of p s) e (join_all_has (incoming p s s) (incoming_have p s s)) is
