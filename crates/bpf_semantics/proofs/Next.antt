-- A step that continues counts one instruction, and keeps the attributes.
use Rattle.std.proofs.Common.{◌≡◌, ℕ, ◌+◌, ◌-◌, ℤ, Option, Some, None, Bool, true, false, refl, ap}
use Rattle.std.specs.Prelude.{◌==◌, if◌then◌else◌}
use Rattle.cells.specs.Arrays.{AppShape}
use Rattle.cells.specs.declared.event.CellOp.{CellOp}
use Rattle.cells.specs.declared.event.CellOp.TheVariants as cell
use Rattle.bpf_insn.specs.declared.reg.Reg.{Reg}
use Rattle.bpf_insn.specs.declared.operand.Bits.TheVariants.{Bits64}
use Rattle.bpf_insn.specs.declared.operand.Size.{Size}
use Rattle.bpf_insn.specs.declared.operand.AtomicOp.{AtomicOp}
use Rattle.bpf_insn.specs.declared.operand.AtomicSize.{AtomicSize}
use Rattle.bpf_insn.specs.declared.insn.Insn.{Insn}
use Rattle.bpf_insn.specs.declared.insn.Insn.TheVariants.{Alu, Mov, MovSx, Neg, End}
use Rattle.bpf_insn.specs.declared.insn.Insn.TheVariants.{Jump, JumpIf, Call, Exit, Load}
use Rattle.bpf_insn.specs.declared.insn.Insn.TheVariants.{StoreImm, Store, Atomic, Wide}
use Rattle.bpf_insn.specs.Table.{number_of}
use Rattle.bpf_insn.specs.Words.{immediate}
use Rattle.bpf_insn.specs.Program.{◌>>=◌, at, landing}
use Rattle.bpf_semantics.specs.Program.{ShapedProgram}
use Rattle.bpf_semantics.specs.Memory.{address_of, is_in_stack, stack_start, cell_at}
use Rattle.bpf_semantics.specs.State.{State, with_bytes, with_register}
use Rattle.bpf_semantics.specs.Reads.{byte_count, register}
use Rattle.bpf_semantics.specs.Outcome.{Outcome, Operates, Trap, needed, write, branch, finish}
use Rattle.bpf_semantics.specs.Outcome.{jump_to, go_to, moved, moved_to, operate, answer}
use Rattle.bpf_semantics.specs.Counters.{reach, load_cell, store_cell, store_operates}
use Rattle.bpf_semantics.specs.Counters.{atomic_operates}
use Rattle.bpf_semantics.specs.Counters.{atomic_count, cell_op, fetched, expected, cut}
use Rattle.bpf_semantics.specs.Step.{act, act_at, step, store}
use Rattle.bpf_semantics.specs.Laws.{IsNext}

either : (s : State) (b : Bool) (o q : Outcome) → IsNext s o → IsNext s q
    → IsNext s (if b then o else q)
either s true o q left right = left
either s false o q left right = right

write_next : (s : State) (width : ℕ) (dst : Reg) (o : Option ℕ) → IsNext s (write s width dst o)
write_next s width dst None = tt
write_next s width dst (Some v) =
    either s (number_of dst == 10) Trap (go_to (with_register s (number_of dst) v) (s.slot + width))
    tt (record { count = refl; attributes = refl })

jump_next : (s : State) (o : Option ℕ) → IsNext s (jump_to s o)
jump_next s None = tt
jump_next s (Some slot) = record { count = refl; attributes = refl }

branch_next : (s : State) (offset : ℤ) (o : Option Bool) → IsNext s (branch s offset o)
branch_next s offset None = tt
branch_next s offset (Some taken) =
    either s taken (jump_to s (landing s.slot offset)) (go_to s (s.slot + 1))
    (jump_next s (landing s.slot offset)) (record { count = refl; attributes = refl })

finish_next : (s : State) (o : Option ℕ) → IsNext s (finish o)
finish_next s None = tt
finish_next s (Some v) = tt

answer_next : (s : State) (o : Option ℕ) → IsNext s (answer s o)
answer_next s None = tt
answer_next s (Some v) = record { count = refl; attributes = refl }

ask_next : (s : State) (c : ℕ) (op : CellOp) (dst : Option Reg) → IsNext s (operate s c op dst)
ask_next s c op None = λ reply. record { count = refl; attributes = refl }
ask_next s c op (Some dst) =
    either s (number_of dst == 10) Trap
    (Operates c op (λ reply. moved_to (with_register s (number_of dst) reply) (s.slot + 1))) tt
    (λ reply. record { count = refl; attributes = refl })

reach_next : (s : State) (o : Option ℕ) (counter : ℕ → Outcome) (memory : Outcome)
    → ((c : ℕ) → IsNext s (counter c)) → IsNext s memory → IsNext s (reach o counter memory)
reach_next s None counter memory at_cell else_memory = else_memory
reach_next s (Some c) counter memory at_cell else_memory = at_cell c

moved_next : (s t : State) (b : Bool) → t.count ≡ s.count → t.attributes ≡ s.attributes
    → IsNext s (moved (if b then Some t else None))
moved_next s t true count attributes =
    record { count = ap (λ (n : ℕ). n + 1) count; attributes = attributes }
moved_next s t false count attributes = tt

store_asks_next : (s : State) (size : Size) (o : Option ℕ) (c : ℕ)
    → IsNext s (store_operates s size o c)
store_asks_next s size None c = tt
store_asks_next s size (Some v) c = ask_next s c (cell.Store (cut (byte_count size) v)) None

store_next : (s : State) (size : Size) (base : Option ℕ) (offset : ℤ) (value : Option ℕ)
    → IsNext s (store s size base offset value)
store_next s size None offset value = tt
store_next s size (Some b) offset None = reach_next s (store_cell size (Some b) offset)
    (store_operates s size None) Trap (store_asks_next s size None) tt
store_next s size (Some b) offset (Some v) = reach_next s (store_cell size (Some b) offset)
    (store_operates s size (Some v)) _ (store_asks_next s size (Some v))
    (moved_next s (record s {
      stack = with_bytes s.stack (address_of b offset - stack_start) (byte_count size) v;
    }) (is_in_stack (address_of b offset) (byte_count size)) refl refl)

atomic_next : (s : State) (op : AtomicOp) (size : AtomicSize) (dst src : Reg) (offset : ℤ)
    → IsNext s (needed (atomic_operates s op size dst src offset))
atomic_next s op size dst src offset = on_base (register s dst)
  where
    on_operands : (c : ℕ) (o q : Option ℕ)
        → IsNext s (needed (o >>= λ r0. q >>= λ v. Some (operate s c
        (cell_op op (cut (atomic_count size) r0) (cut (atomic_count size) v)) (fetched op src))))
    on_operands c None q = tt
    on_operands c (Some r0) None = tt
    on_operands c (Some r0) (Some v) = ask_next s c
        (cell_op op (cut (atomic_count size) r0) (cut (atomic_count size) v)) (fetched op src)

    on_cell : (o : Option ℕ)
        → IsNext s (needed
        (o >>= λ c. expected op s >>= λ r0. register s src >>= λ v. Some (operate s c
        (cell_op op (cut (atomic_count size) r0) (cut (atomic_count size) v)) (fetched op src))))
    on_cell None = tt
    on_cell (Some c) = on_operands c (expected op s) (register s src)

    on_base : (o : Option ℕ)
        → IsNext s (needed (o >>= λ base. cell_at (address_of base offset) (atomic_count size)
        >>= λ c. expected op s >>= λ r0. register s src >>= λ v. Some (operate s c
        (cell_op op (cut (atomic_count size) r0) (cut (atomic_count size) v)) (fetched op src))))
    on_base None = tt
    on_base (Some base) = on_cell (cell_at (address_of base offset) (atomic_count size))

act_next : (shape : AppShape) (s : State) (i : Insn) → IsNext s (act shape s i)
act_next shape s (Alu bits op dst src) = write_next s 1 dst _
act_next shape s (Mov bits dst src) = write_next s 1 dst _
act_next shape s (MovSx extension dst src) = write_next s 1 dst _
act_next shape s (Neg bits dst) = write_next s 1 dst _
act_next shape s (End order size dst) = write_next s 1 dst _
act_next shape s (Jump distance) = jump_next s _
act_next shape s (JumpIf bits condition left right offset) = branch_next s offset _
act_next shape s (Call helper) = answer_next s _
act_next shape s Exit = finish_next s _
act_next shape s (Load kind dst src offset) = reach_next s (load_cell kind (register s src) offset)
    _ _ (λ c. ask_next s c cell.Load (Some dst)) (write_next s 1 dst _)
act_next shape s (StoreImm size dst offset imm) =
    store_next s size (register s dst) offset (Some (immediate Bits64 imm))
act_next shape s (Store size dst src offset) =
    store_next s size (register s dst) offset (register s src)
act_next shape s (Atomic op size dst src offset) = atomic_next s op size dst src offset
act_next shape s (Wide dst value) = write_next s 2 dst _

at_next : (shape : AppShape) (s : State) (o : Option Insn) → IsNext s (act_at shape s o)
at_next shape s None = tt
at_next shape s (Some i) = act_next shape s i

pub step_next : (p : ShapedProgram) (s : State) → IsNext s (step p s)
step_next p s = at_next p.shape s (at p.code s.slot)
