-- A step that follows one edge, at once or after a counter's reply.
use Rattle.std.proofs.Common.{◌≡◌, ℕ, ◌+◌, ◌≤◌, [], ◌∷◌, Option, Some, None, false, refl, arith}
use Rattle.std.specs.Prelude.{◌==◌}
use Rattle.bpf_insn.specs.declared.reg.Reg.{Reg}
use Rattle.bpf_insn.specs.Table.{number_of}
use Rattle.cells.specs.declared.event.CellOp.{CellOp}
use Rattle.cells.specs.Arrays.{AppShape}
use Rattle.cells.specs.Events.{CanReply}
use Rattle.bpf_semantics.specs.State.{State, with_register}
use Rattle.bpf_semantics.specs.Outcome.{moved_to, write, operate}
use Rattle.abs_value.specs.declared.value.Abs.{Abs}
use Rattle.abs_value.specs.declared.state.AbsState.{AbsState}
use Rattle.abs_value.specs.States.{with_value}
use Rattle.abs_value.specs.Covers.{Returns, AreBefore, Includes, Covers, IsRepresented}
use Rattle.bpf_checks.specs.Sound.{IsLawful, Leads, IsSafe}
use Rattle.bpf_checks.specs.Transfer.{edge_to}
use Rattle.bpf_checks.proofs.Given.{Given}

-- the results of calls for which an entry represents a state
abbrev pub answers : {shape : AppShape} {e : AbsState} {s : State} → IsRepresented shape e s
    → Returns
answers {shape = shape} h = record { shape = shape; by = h.by }

-- coverage doesn't depend on slot and count
pub moved_covers : (g : Returns) (e : AbsState) (s : State) (slot : ℕ) → Covers g e s
    → Covers g e (moved_to s slot)
moved_covers g e s slot h = record { registers = h.registers; stack = h.stack }

-- the results of calls are also before a later slot
pub stands_later : (given : Given) (shape : AppShape) (by : ℕ → Option ℕ) (slot : ℕ) (e : AbsState)
    (t : State) → slot ≤ t.slot → AreBefore slot (record { shape = shape; by = by })
    → Covers (record { shape = shape; by = by }) e t
    → IsRepresented shape e t
stands_later given shape by slot e t le before covers = record {
  by = by;
  before = given.before (record { shape = shape; by = by }) slot t.slot le before;
  covers = covers;
}

pub leads : (shape : AppShape) (e : AbsState) (t : State) → IsRepresented shape e t
    → Leads shape (edge_to t.slot e ∷ []) t
leads shape e t h = record { entry = e; along = (0, omega arith, refl); represents = h }

-- a covered state that moves on to the next slot
pub leads_on : (given : Given) (shape : AppShape) (e f : AbsState) (s t : State) (k : ℕ)
    (h : IsRepresented shape e s) → t.slot ≡ s.slot → Covers (answers h) f t
    → Leads shape (edge_to (s.slot + k) f ∷ []) (moved_to t (s.slot + k))
leads_on given shape e f s t k h same covers =
    leads shape f (moved_to t (s.slot + k))
    (stands_later given shape h.by s.slot f (moved_to t (s.slot + k)) (omega arith) h.before
    (moved_covers (answers h) f t (s.slot + k) covers))

-- a write to a register, of a number that the value represents
pub write_safe : (given : Given) (shape : AppShape) (e : AbsState) (s : State) (k : ℕ) (dst : Reg)
    (v : Abs) (w : Option ℕ) (x : ℕ) (h : IsRepresented shape e s)
    → (number_of dst == 10) ≡ false → w ≡ Some x → Includes (answers h) v x
    → IsSafe shape (edge_to (s.slot + k) (with_value e dst v) ∷ []) (write s k dst w)
write_safe given shape e s k dst v w x h frame is inc =
    rw (is, frame)
    (leads_on given shape e (with_value e dst v) s (with_register s (number_of dst) x) k h refl
    (given.writes (answers h) e s dst v x h.covers inc))

-- a counter operation whose reply goes into a register
pub fetch_safe : (given : Given) (shape : AppShape) (e : AbsState) (s : State) (cell : ℕ)
    (op : CellOp) (dst : Reg) (v : Abs) (h : IsRepresented shape e s)
    → (number_of dst == 10) ≡ false
    → IsLawful shape cell op
    → ((reply : ℕ) → CanReply cell op reply → Includes (answers h) v reply)
    → IsSafe shape (edge_to (s.slot + 1) (with_value e dst v) ∷ []) (operate s cell op (Some dst))
fetch_safe given shape e s cell op dst v h frame lawful inc =
    rw frame (
      lawful,
      λ reply fits.
          leads_on given shape e (with_value e dst v) s (with_register s (number_of dst) reply) 1 h
          refl (given.writes (answers h) e s dst v reply h.covers (inc reply fits)),
    )

-- the same, with no register
pub ask_safe : (given : Given) (shape : AppShape) (e : AbsState) (s : State) (cell : ℕ)
    (op : CellOp) (h : IsRepresented shape e s) → IsLawful shape cell op
    → IsSafe shape (edge_to (s.slot + 1) e ∷ []) (operate s cell op None)
ask_safe given shape e s cell op h lawful =
    (lawful, λ reply fits. leads_on given shape e e s s 1 h refl h.covers)
