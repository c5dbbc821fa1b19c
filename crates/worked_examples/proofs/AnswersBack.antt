-- If an entry names only earlier calls and covers a state, only the results of those calls matter.
use Rattle.std.proofs.Common.{◌≡◌, ℕ, ◌<◌, Option, Some, None, true, false, refl, arith}
use Rattle.std.specs.Prelude.{nat_lt, if◌then◌else◌}
use Rattle.bpf_semantics.specs.Program.{ShapedProgram}
use Rattle.bpf_semantics.specs.State.{State}
use Rattle.abs_value.specs.declared.origin.Lookup.{Lookup}
use Rattle.abs_value.specs.declared.origin.Origin.TheVariants.{Found}
use Rattle.abs_value.specs.declared.slot.AbsSlot.{AbsSlot}
use Rattle.abs_value.specs.declared.slot.AbsSlot.TheVariants.{Kept, Bytes}
use Rattle.abs_value.specs.declared.state.AbsState.{AbsState}
use Rattle.abs_value.specs.declared.value.Abs.{Abs}
use Rattle.abs_value.specs.declared.value.Abs.TheVariants.{MayCell, Cell}
use Rattle.abs_value.specs.Stack.{slot_at}
use Rattle.abs_value.specs.States.{register_at}
use Rattle.abs_value.specs.Covers.{Returns, Answered, AreBefore, Includes, CoversValue}
use Rattle.abs_value.specs.Covers.{CoversSlot, Covers, IsRepresented, bytes_of}
use Rattle.bpf_verify.specs.Accepted.{entry_of}
use Rattle.worked_examples.specs.LooksBack.{LooksBack, SlotLooksBack, StateLooksBack}
use Rattle.worked_examples.proofs.EntriesBack.{entries_back}

-- the results of the calls before a slot
abbrev before : ℕ → Returns → Returns
before s g = record g { by = λ call. if nat_lt call s then g.by call else None }

answered : (s : ℕ) (g : Returns) (call : Lookup) (x : ℕ) → call.slot < s → Answered g call x
    → Answered (before s g) call x
answered s g call x lt h =
    let test : nat_lt call.slot s ≡ true = grind (arith, lt) in (rw test h.0, h.1)

included : (s : ℕ) (g : Returns) (v : Abs) (x : ℕ) → LooksBack s v → Includes g v x
    → Includes (before s g) v x
included s g (MayCell call) x back h = answered s g call x back h
included s g (Cell (Found call)) x back h = (answered s g call x back h.0, h.1)
included s g v x back h = h

value_covered : (s : ℕ) (g : Returns) (v : Abs) (o : Option ℕ) → LooksBack s v
    → CoversValue g v o → CoversValue (before s g) v o
value_covered s g (MayCell call) (Some x) back h = answered s g call x back h
value_covered s g (Cell (Found call)) (Some x) back h = (answered s g call x back h.0, h.1)
value_covered s g v o back h = h

slot_covered : (s : ℕ) (g : Returns) (slot : AbsSlot) (bytes : ℕ → Option ℕ)
    → SlotLooksBack s slot → CoversSlot g slot bytes → CoversSlot (before s g) slot bytes
slot_covered s g (Kept v) bytes back h = record {
  number = h.number;
  word = h.word;
  included = included s g v h.number back h.included;
  bytes_are = h.bytes_are;
}
slot_covered s g (Bytes mask) bytes back h = h

covered : (g : Returns) (e : AbsState) (s : State) → StateLooksBack s.slot e → Covers g e s
    → Covers (before s.slot g) e s
covered g e s back h = record {
  registers = λ r. value_covered s.slot g (register_at e.registers r) (s.registers r)
      (back.registers r) (h.registers r);
  stack = λ i. slot_covered s.slot g (slot_at e.stack i) (bytes_of s.stack i) (back.stack i)
      (h.stack i);
}

none_from : (s : ℕ) (g : Returns) → AreBefore s (before s g)
none_from s g call from =
    let test : nat_lt call s ≡ false = grind (arith, from) in rw test refl

pub covers_before : (p : ShapedProgram) (s : State) (e : AbsState) (by : ℕ → Option ℕ)
    → entry_of p s.slot ≡ Some e → Covers (record { shape = p.shape; by = by }) e s
    → IsRepresented p.shape e s
covers_before p s e by is h =
    let g : Returns = record { shape = p.shape; by = by } in
    record {
      by = (before s.slot g).by;
      before = none_from s.slot g;
      covers = covered g e s (entries_back p s.slot e is) h;
    }
