-- Each entry names only earlier calls, since each edge does, and joins keep this.
use Rattle.std.proofs.Common.{◌≡◌, ℕ, zero, suc, ◌<◌, List, [], ◌∷◌, ◌++◌}
use Rattle.std.proofs.Common.{Option, Some, None, Bool, true, false, subst, arith}
use Rattle.std.specs.Prelude.{IfSome, ◌==◌, if◌then◌else◌}
use Rattle.std.specs.List.{AllByRecursion}
use Rattle.std.proofs.lemmas.Option.{same_Some, none-some}
use Rattle.bpf_insn.specs.declared.operand.Bits.TheVariants.{Bits64}
use Rattle.bpf_insn.specs.declared.operand.LoadKind.{LoadKind}
use Rattle.bpf_insn.specs.declared.reg.Reg.{Reg}
use Rattle.bpf_insn.specs.declared.insn.Insn.{Insn}
use Rattle.bpf_insn.specs.declared.insn.Insn.TheVariants.{Alu, Mov, MovSx, Neg, End, JumpIf, Call}
use Rattle.bpf_insn.specs.declared.insn.Insn.TheVariants.{Load, StoreImm, Store, Atomic, Wide}
use Rattle.bpf_insn.specs.Table.{number_of}
use Rattle.bpf_insn.specs.Words.{immediate}
use Rattle.bpf_insn.specs.Program.{at}
use Rattle.bpf_semantics.specs.Counters.{fetched}
use Rattle.bpf_semantics.specs.Program.{ShapedProgram}
use Rattle.bpf_semantics.specs.Reads.{load_count, byte_count}
use Rattle.cells.specs.Arrays.{AppShape}
use Rattle.abs_value.specs.declared.state.AbsState.{AbsState}
use Rattle.abs_value.specs.declared.value.Abs.{Abs}
use Rattle.abs_value.specs.declared.value.Abs.TheVariants.{Num}
use Rattle.abs_value.specs.Numbers.{single}
use Rattle.abs_value.specs.States.{value_of, operand_value, opening_state, join_states}
use Rattle.flow_check.specs.Edges.{target_of, next_target}
use Rattle.bpf_checks.specs.Memory.{stack_place}
use Rattle.bpf_checks.specs.Transfer.{loaded_at, stored_at, fetched_value}
use Rattle.bpf_checks.specs.Transfer.{with_fetched, after, jumping, going_on}
use Rattle.bpf_checks.specs.Transfer.{Edge, edge, edges}
use Rattle.bpf_verify.specs.Accepted.{to_place, joined, join_all, edges_of, incoming, entry_of}
use Rattle.worked_examples.specs.LooksBack.{LooksBack, StateLooksBack}
use Rattle.worked_examples.proofs.ValuesBack as value
use Rattle.worked_examples.proofs.StatesBack as state

-- ---- one instruction

loaded : (s : ℕ) (e : AbsState) (place : Option ℕ) (kind : LoadKind) → StateLooksBack s e
    → LooksBack s (loaded_at e place kind)
loaded s e None kind h = value.loaded kind s
loaded s e (Some place) kind h = state.load_back s e place kind h

stored : (s : ℕ) (e : AbsState) (place : Option ℕ) (n : ℕ) (v : Abs) → StateLooksBack s e
    → LooksBack s v → StateLooksBack s (stored_at e place n v)
stored s e None n v h k = h
stored s e (Some place) n v h k = state.stored_back s e place n v h k

fetched_back : (s : ℕ) (e : AbsState) (dst : Option Reg) (v : Abs) → StateLooksBack s e
    → LooksBack s v → StateLooksBack s (with_fetched e dst v)
fetched_back s e None v h k = h
fetched_back s e (Some r) v h k = state.written s e r v h k

after_back : (s place : ℕ) (shape : AppShape) (e : AbsState) (i : Insn) → place < s
    → StateLooksBack s e → StateLooksBack s (after shape place e i)
after_back s place shape e (Alu bits op dst src) lt h = state.written s e dst _ h
    (value.results bits op (value_of e dst) (operand_value e bits src) s)
after_back s place shape e (Mov bits dst src) lt h = state.written s e dst _ h
    (value.copied s bits (operand_value e bits src) (state.operand_back s e bits src h))
after_back s place shape e (MovSx extension dst src) lt h =
    state.written s e dst _ h (value.extended extension (value_of e src) s)
after_back s place shape e (Neg bits dst) lt h =
    state.written s e dst _ h (value.negated bits (value_of e dst) s)
after_back s place shape e (End order size dst) lt h =
    state.written s e dst _ h (value.reordered order size (value_of e dst) s)
after_back s place shape e (Call helper) lt h = state.called_back s place e helper lt h
after_back s place shape e (Load kind dst src offset) lt h = state.written s e dst _ h
    (loaded s e (stack_place (value_of e src) offset (load_count kind)) kind h)
after_back s place shape e (StoreImm size dst offset imm) lt h =
    stored s e (stack_place (value_of e dst) offset (byte_count size)) (byte_count size)
    (Num (single (immediate Bits64 imm))) h tt
after_back s place shape e (Store size dst src offset) lt h =
    stored s e (stack_place (value_of e dst) offset (byte_count size)) (byte_count size)
    (value_of e src) h (h.registers (number_of src))
after_back s place shape e (Atomic op size dst src offset) lt h =
    fetched_back s e (fetched op src) (fetched_value size) h tt
after_back s place shape e (Wide dst number) lt h =
    state.written s e dst _ h (value.wide_loads shape number s)
after_back s place shape e i lt h = h

pub jumping_back : (s : ℕ) (e : AbsState) (i : Insn) → StateLooksBack s e
    → IfSome (jumping e i) (StateLooksBack s)
jumping_back s e (JumpIf bits condition left right offset) h =
    state.refined_back s e bits condition left right true h
jumping_back s e i h = h

pub going_on_back : (s place : ℕ) (shape : AppShape) (e : AbsState) (i : Insn) → place < s
    → StateLooksBack s e → IfSome (going_on shape place e i) (StateLooksBack s)
going_on_back s place shape e (JumpIf bits condition left right offset) lt h =
    state.refined_back s e bits condition left right false h
going_on_back s place shape e i lt h = after_back s place shape e i lt h

-- ---- joined edges

AllLookBack : ℕ → List AbsState → Type 0
AllLookBack s es = AllByRecursion (StateLooksBack s) es

EdgesLookBack : ℕ → List Edge → Type 0
EdgesLookBack s ds = AllByRecursion (λ d. StateLooksBack s d.entry) ds

all_append : {X : Type 0} (P : X → Type 0) (xs ys : List X) → AllByRecursion P xs
    → AllByRecursion P ys → AllByRecursion P (xs ++ ys)
all_append P [] ys h k = k
all_append P (x ∷ xs) ys h k = (h.0, all_append P xs ys h.1 k)

all_later : (s : ℕ) (es : List AbsState) → AllLookBack s es → AllLookBack (suc s) es
unfolding AllLookBack
all_later s [] h = tt
all_later s (e ∷ es) h = (state.later s (suc s) e (omega arith) h.0, all_later s es h.1)

if_back : (s : ℕ) (b : Bool) (e : AbsState) (es : List AbsState) → StateLooksBack s e
    → AllLookBack s es → AllLookBack s (if b then e ∷ es else es)
unfolding AllLookBack
if_back s true e es h k = (h, k)
if_back s false e es h k = k

to_place_back : (s m : ℕ) (ds : List Edge) → EdgesLookBack s ds → AllLookBack s (to_place m ds)
unfolding AllLookBack EdgesLookBack
to_place_back s m [] h = tt
to_place_back s m (d ∷ ds) h =
    if_back s (d.target == m) d.entry (to_place m ds) h.0 (to_place_back s m ds h.1)

joined_back : (s : ℕ) (e : AbsState) (es : List AbsState) → StateLooksBack s e
    → AllLookBack s es → StateLooksBack s (joined e es)
unfolding AllLookBack
joined_back s e [] h k = h
joined_back s e (f ∷ fs) h k =
    joined_back s (join_states e f) fs (state.joined_back s e f h k.0) k.1

join_all_back : (s : ℕ) (es : List AbsState) → AllLookBack s es
    → IfSome (join_all es) (StateLooksBack s)
unfolding AllLookBack
join_all_back s [] h = tt
join_all_back s (e ∷ es) h = joined_back s e es h.0 h.1

-- ---- the entries

edge_back : (s : ℕ) (t : Option ℕ) (o : Option AbsState) → IfSome o (StateLooksBack s)
    → EdgesLookBack s (edge t o)
unfolding EdgesLookBack
edge_back s (Some t) (Some e) h = (h, tt)
edge_back s (Some t) None h = tt
edge_back s None o h = tt

edges_back : (shape : AppShape) (k : ℕ) (o : Option AbsState) (w : Option Insn)
    → IfSome o (StateLooksBack k) → EdgesLookBack (suc k) (edges_of shape k o w)
unfolding edges EdgesLookBack
edges_back shape k (Some e) (Some i) h =
    let near : k < suc k = omega arith in
    let from = state.later k (suc k) e (omega arith) h in
    all_append (λ d. StateLooksBack (suc k) d.entry) (edge (target_of k i) (jumping e i))
    (edge (next_target k i) (going_on shape k e i))
    (edge_back (suc k) (target_of k i) (jumping e i) (jumping_back (suc k) e i from))
    (edge_back (suc k) (next_target k i) (going_on shape k e i)
    (going_on_back (suc k) k shape e i near from))
edges_back shape k (Some e) None h = tt
edges_back shape k None w h = tt

-- the entries on edges from slots before k name only calls before k
incoming_back : (p : ShapedProgram) (k m : ℕ) → AllLookBack k (incoming p k m)
unfolding incoming AllLookBack
incoming_back p zero m = if_back zero (m == 0) opening_state [] (state.opening_back zero) tt
incoming_back p (suc k) m =
    let edges = edges_of p.shape k (entry_of p k) (at p.code k) in
    all_append (StateLooksBack (suc k)) (incoming p k m) (to_place m edges)
    (all_later k (incoming p k m) (incoming_back p k m))
    (to_place_back (suc k) m edges (edges_back p.shape k (entry_of p k) (at p.code k)
    (join_all_back k (incoming p k k) (incoming_back p k k))))

some_back : (s : ℕ) (o : Option AbsState) (e : AbsState) → IfSome o (StateLooksBack s)
    → o ≡ Some e → StateLooksBack s e
some_back s None e h is = absurd (none-some e is)
some_back s (Some f) e h is = subst (StateLooksBack s) (same_Some _ _ is) h

pub entries_back : (p : ShapedProgram) (s : ℕ) (e : AbsState) → entry_of p s ≡ Some e
    → StateLooksBack s e
entries_back p s e is =
    some_back s (entry_of p s) e (join_all_back s (incoming p s s) (incoming_back p s s)) is
