-- One step of the old program is one of the new one. From a state that differs only in slot and
-- count, the same instruction has the same outcome, and continues as the old one does.
use Rattle.std.proofs.Common.{◌≡◌, ℕ, ◌+◌, ◌-◌, ℤ, Option, Some, None}
use Rattle.std.proofs.Common.{Bool, true, false, refl, sym, subst, inl}
use Rattle.std.specs.Prelude.{◌==◌, if◌then◌else◌}
use Rattle.cells.specs.Arrays.{AppShape}
use Rattle.cells.specs.declared.event.CellOp.{CellOp}
use Rattle.cells.specs.declared.event.CellOp.TheVariants as cell
use Rattle.bpf_insn.specs.declared.reg.Reg.{Reg}
use Rattle.bpf_insn.specs.declared.operand.Bits.{Bits}
use Rattle.bpf_insn.specs.declared.operand.Operand.{Operand}
use Rattle.bpf_insn.specs.declared.operand.Operand.TheVariants.{Imm, Register}
use Rattle.bpf_insn.specs.declared.operand.Size.{Size}
use Rattle.bpf_insn.specs.declared.operand.AtomicOp.{AtomicOp}
use Rattle.bpf_insn.specs.declared.operand.AtomicOp.TheVariants.{CompareExchange}
use Rattle.bpf_insn.specs.declared.operand.AtomicSize.{AtomicSize}
use Rattle.bpf_insn.specs.Table.{number_of}
use Rattle.bpf_insn.specs.Program.{◌>>=◌, Program, landing}
use Rattle.bpf_semantics.specs.Memory.{address_of, is_in_stack, stack_start, cell_at}
use Rattle.bpf_semantics.specs.State.{State, with_bytes, with_register}
use Rattle.bpf_semantics.specs.Reads.{byte_count, register, operand}
use Rattle.bpf_semantics.specs.Outcome.{Outcome, Operates, Trap, needed, write, branch}
use Rattle.bpf_semantics.specs.Outcome.{finish, jump_to, go_to, moved, moved_to, operate, answer}
use Rattle.bpf_semantics.specs.Counters.{reach, store_cell, store_operates, atomic_operates}
use Rattle.bpf_semantics.specs.Counters.{atomic_count, cell_op, fetched, expected, cut}
use Rattle.bpf_semantics.specs.Calls.{result_by, known_result, helper_result}
use Rattle.bpf_semantics.specs.declared.helpers.Helper.{Helper}
use Rattle.bpf_semantics.specs.declared.helpers.Prototype.{Prototype}
use Rattle.bpf_semantics.specs.declared.helpers.Prototype.TheVariants.{OfMap, OfText, OfNumber}
use Rattle.bpf_semantics.specs.Helpers.{helper_of, prototype_of, given_of_number}
use Rattle.bpf_semantics.specs.Step.{store}
use Rattle.block_order.specs.Order.{Places, GoesOnAt}
use Rattle.block_order.proofs.Lockstep.{Matches}

-- the state at another slot, and with another count
abbrev pub set : State → ℕ → ℕ → State
set s v m = record s { slot = v; count = m }

-- operands don't depend on the slot
pub operand_same : (s : State) (v m : ℕ) (bits : Bits) (x : Operand)
    → operand (set s v m) bits x ≡ operand s bits x
operand_same s v m bits (Imm k) = refl
operand_same s v m bits (Register r) = refl

expected_same : (s : State) (v m : ℕ) (op : AtomicOp) → expected op (set s v m) ≡ expected op s
expected_same s v m CompareExchange = refl
expected_same s v m op = refl

given_same : (shape : AppShape) (s : State) (v m : ℕ) (f : ℕ → ℕ) (prototype : Prototype)
    → result_by shape (set s v m) f prototype ≡ result_by shape s f prototype
given_same shape s v m f OfMap = refl
given_same shape s v m f OfText = refl
given_same shape s v m f (OfNumber most) = refl

pub result_same : (shape : AppShape) (s : State) (v m : ℕ) (number : ℤ)
    → helper_result shape (set s v m) number ≡ helper_result shape s number
result_same shape s v m number = by_helper (helper_of number)
  where
    by_helper : (o : Option Helper)
        → (o >>= known_result shape (set s v m)) ≡ (o >>= known_result shape s)
    by_helper None = refl
    by_helper (Some helper) =
        given_same shape s v m (given_of_number helper s.attributes) (prototype_of helper)

module _ (places : Places) (q : Program) where
  -- the new state is the old one, at a slot that leads to the old one's instruction
  abbrev pub Tracks : State → State → Type 0
  Tracks t t' = (v : ℕ) × (m : ℕ) × (t' ≡ set t v m) × GoesOnAt places q v t.slot

  -- the new step has the same outcome as the old one
  abbrev pub Follows : Outcome → Outcome → Type 0
  Follows = Matches Tracks

  pub either : (b : Bool) (o o' k k' : Outcome) → Follows o o' → Follows k k'
      → Follows (if b then o else k) (if b then o' else k')
  either true o o' k k' left right = left
  either false o o' k k' left right = right

  pub reach_follows : (o : Option ℕ) (counter counter' : ℕ → Outcome) (memory memory' : Outcome)
      → ((c : ℕ) → Follows (counter c) (counter' c)) → Follows memory memory'
      → Follows (reach o counter memory) (reach o counter' memory')
  reach_follows None counter counter' memory memory' at_cell else_memory = else_memory
  reach_follows (Some c) counter counter' memory memory' at_cell else_memory = at_cell c

  module _ (s : State) (v m : ℕ) where
    module _ (w : ℕ) (on : GoesOnAt places q (v + w) (s.slot + w)) where
      pub write_follows : (dst : Reg) (o : Option ℕ)
          → Follows (write s w dst o) (write (set s v m) w dst o)
      write_follows dst None = tt
      write_follows dst (Some n) =
          either (number_of dst == 10) Trap Trap
          (go_to (with_register s (number_of dst) n) (s.slot + w))
          (go_to (with_register (set s v m) (number_of dst) n) (v + w)) tt
          (v + w, m + 1, refl, on)

    module _ (on : GoesOnAt places q (v + 1) (s.slot + 1)) where
      pub answer_follows : (o : Option ℕ) → Follows (answer s o) (answer (set s v m) o)
      answer_follows None = tt
      answer_follows (Some n) = (v + 1, m + 1, refl, on)

      pub ask_follows : (c : ℕ) (op : CellOp) (dst : Option Reg)
          → Follows (operate s c op dst) (operate (set s v m) c op dst)
      ask_follows c op None = (refl, refl, λ r. (v + 1, m + 1, refl, on))
      ask_follows c op (Some dst) =
          either (number_of dst == 10) Trap Trap
          (Operates c op (λ r. moved_to (with_register s (number_of dst) r) (s.slot + 1)))
          (Operates c op (λ r. moved_to (with_register (set s v m) (number_of dst) r) (v + 1))) tt
          (refl, refl, λ r. (v + 1, m + 1, refl, on))

      pub store_asks_follows : (size : Size) (o : Option ℕ) (c : ℕ)
          → Follows (store_operates s size o c) (store_operates (set s v m) size o c)
      store_asks_follows size None c = tt
      store_asks_follows size (Some n) c = ask_follows c (cell.Store (cut (byte_count size) n)) None

      moved_follows : (b : Bool) (t : State) → t.slot ≡ s.slot
          → Follows (moved (if b then Some t else None))
          (moved (if b then Some (set t v m) else None))
      moved_follows true t same =
          (v + 1, m + 1, refl, subst (λ (n : ℕ). GoesOnAt places q (v + 1) (n + 1)) (sym same) on)
      moved_follows false t same = tt

      pub store_follows : (size : Size) (base : Option ℕ) (offset : ℤ) (value : Option ℕ)
          → Follows (store s size base offset value) (store (set s v m) size base offset value)
      store_follows size None offset value = tt
      store_follows size (Some b) offset None =
          reach_follows (store_cell size (Some b) offset) (store_operates s size None)
          (store_operates (set s v m) size None) Trap Trap (store_asks_follows size None) tt
      store_follows size (Some b) offset (Some n) =
          reach_follows (store_cell size (Some b) offset) (store_operates s size (Some n))
          (store_operates (set s v m) size (Some n)) _ _ (store_asks_follows size (Some n))
          (moved_follows (is_in_stack (address_of b offset) (byte_count size)) (record s {
            stack = with_bytes s.stack (address_of b offset - stack_start) (byte_count size) n;
          }) refl)

      atomic_operands : (op : AtomicOp) (size : AtomicSize) (src : Reg) (c : ℕ) (o p : Option ℕ)
          → Follows (needed (o >>= λ r0. p >>= λ n. Some (operate s c
          (cell_op op (cut (atomic_count size) r0) (cut (atomic_count size) n)) (fetched op src))))
          (needed (o >>= λ r0. p >>= λ n. Some (operate (set s v m) c
          (cell_op op (cut (atomic_count size) r0) (cut (atomic_count size) n)) (fetched op src))))
      atomic_operands op size src c None p = tt
      atomic_operands op size src c (Some r0) None = tt
      atomic_operands op size src c (Some r0) (Some n) = ask_follows c
          (cell_op op (cut (atomic_count size) r0) (cut (atomic_count size) n)) (fetched op src)

      atomic_cell : (op : AtomicOp) (size : AtomicSize) (src : Reg) (o : Option ℕ)
          → Follows (needed (o >>= λ c. expected op s >>= λ r0. register s src >>= λ n.
          Some (operate s c (cell_op op (cut (atomic_count size) r0) (cut (atomic_count size) n))
          (fetched op src))))
          (needed (o >>= λ c. expected op (set s v m) >>= λ r0. register s src >>= λ n.
          Some (operate (set s v m) c
          (cell_op op (cut (atomic_count size) r0) (cut (atomic_count size) n)) (fetched op src))))
      atomic_cell op size src None = tt
      atomic_cell op size src (Some c) = rw (expected_same s v m op)
          (atomic_operands op size src c (expected op s) (register s src))

      pub atomic_follows : (op : AtomicOp) (size : AtomicSize) (dst src : Reg) (offset : ℤ)
          → Follows (needed (atomic_operates s op size dst src offset))
          (needed (atomic_operates (set s v m) op size dst src offset))
      atomic_follows op size dst src offset = on_base (register s dst)
        where
          on_base : (o : Option ℕ)
              → Follows (needed (o >>= λ base. cell_at (address_of base offset) (atomic_count size)
              >>= λ c. expected op s >>= λ r0. register s src >>= λ n. Some (operate s c
              (cell_op op (cut (atomic_count size) r0) (cut (atomic_count size) n))
              (fetched op src))))
              (needed (o >>= λ base. cell_at (address_of base offset) (atomic_count size)
              >>= λ c. expected op (set s v m) >>= λ r0. register s src >>= λ n.
              Some (operate (set s v m) c
              (cell_op op (cut (atomic_count size) r0) (cut (atomic_count size) n))
              (fetched op src))))
          on_base None = tt
          on_base (Some base) =
              atomic_cell op size src (cell_at (address_of base offset) (atomic_count size))

    module _ (offset other : ℤ) (target place : ℕ) (lands : landing s.slot offset ≡ Some target)
        (there : landing v other ≡ Some place) (placed : places target ≡ Some place)
        (on : GoesOnAt places q (v + 1) (s.slot + 1)) where
      pub branch_follows : (o : Option Bool)
          → Follows (branch s offset o) (branch (set s v m) other o)
      branch_follows None = tt
      branch_follows (Some taken) =
          either taken (jump_to s (landing s.slot offset)) (jump_to (set s v m) (landing v other))
          (go_to s (s.slot + 1)) (go_to (set s v m) (v + 1))
          (rw (lands, there) (place, m + 1, refl, (place, placed, inl refl)))
          (v + 1, m + 1, refl, on)

    pub finish_follows : (o : Option ℕ) → Follows (finish o) (finish o)
    finish_follows None = tt
    finish_follows (Some n) = refl
