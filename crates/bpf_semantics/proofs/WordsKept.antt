-- Each step keeps words.
use Rattle.std.proofs.Common.{◌≡◌, ℕ, ◌+◌, ◌-◌, ◌/◌, ◌%◌, ◌^◌, ◌<◌, ℤ, FitsSigned}
use Rattle.std.proofs.Common.{Option, Some, None, Bool, true, false, refl, arith}
use Rattle.std.specs.Prelude.{IfSome, ◌&&◌, nat_le, nat_lt, ◌==◌, if◌then◌else◌}
use Rattle.std.specs.Int.{w32}
use Rattle.std.proofs.lemmas.Nat.{mod_below}
use Rattle.cells.specs.Arrays.{AppShape, IsShape}
use Rattle.cells.specs.Events.{limit, CanReply}
use Rattle.cells.specs.declared.event.CellOp.{CellOp}
use Rattle.cells.specs.declared.event.CellOp.TheVariants as cell
use Rattle.bpf_insn.specs.declared.reg.Reg.{Reg}
use Rattle.bpf_insn.specs.declared.operand.Bits.{Bits}
use Rattle.bpf_insn.specs.declared.operand.Bits.TheVariants.{Bits64}
use Rattle.bpf_insn.specs.declared.operand.Operand.{Operand}
use Rattle.bpf_insn.specs.declared.operand.Operand.TheVariants.{Imm, Register}
use Rattle.bpf_insn.specs.declared.operand.Size.{Size}
use Rattle.bpf_insn.specs.declared.operand.LoadKind.{LoadKind}
use Rattle.bpf_insn.specs.declared.operand.AtomicOp.{AtomicOp}
use Rattle.bpf_insn.specs.declared.operand.AtomicSize.{AtomicSize}
use Rattle.bpf_insn.specs.declared.insn.Insn.{Insn}
use Rattle.bpf_insn.specs.declared.insn.Insn.TheVariants.{Alu, Mov, MovSx, Neg, End}
use Rattle.bpf_insn.specs.declared.insn.Insn.TheVariants.{Jump, JumpIf, Call, Exit, Load}
use Rattle.bpf_insn.specs.declared.insn.Insn.TheVariants.{StoreImm, Store, Atomic, Wide}
use Rattle.bpf_insn.specs.Table.{number_of}
use Rattle.bpf_insn.specs.Words.{word, immediate}
use Rattle.bpf_insn.specs.Arithmetic.{FitsWidth, alu_result, negated, extended, reordered}
use Rattle.bpf_insn.specs.Conditions.{holds}
use Rattle.bpf_insn.specs.Program.{◌>>=◌, at, landing, slots_moved}
use Rattle.bpf_insn.specs.Spelling.{IsEncodable, imm_field}
use Rattle.bpf_semantics.specs.Program.{ShapedProgram}
use Rattle.bpf_semantics.specs.Memory.{address_of, is_in_stack, stack_start, cell_at}
use Rattle.bpf_semantics.specs.State.{State, HasWords, read_at, with_bytes}
use Rattle.bpf_semantics.specs.State.{with_register, with_result}
use Rattle.bpf_semantics.specs.Reads.{register, operand, both, only}
use Rattle.bpf_semantics.specs.Reads.{byte_count, load_count, filled, loaded}
use Rattle.bpf_semantics.specs.Outcome.{Outcome, Operates, Trap, needed, write, branch, finish}
use Rattle.bpf_semantics.specs.Outcome.{jump_to, go_to, moved, moved_to, operate, answer}
use Rattle.bpf_semantics.specs.Counters.{reach, load_cell, store_cell, store_operates}
use Rattle.bpf_semantics.specs.Counters.{atomic_operates}
use Rattle.bpf_semantics.specs.Counters.{atomic_count, cell_op, fetched, expected, cut}
use Rattle.bpf_semantics.specs.Calls.{wide_value, helper_result}
use Rattle.bpf_semantics.specs.Step.{act, act_at, store}
use Rattle.bpf_semantics.specs.Laws.{GivesWords, KeepsWords}
use Rattle.bpf_semantics.proofs.WordResults.{IsWord, is_word, alu_word, negated_word}
use Rattle.bpf_semantics.proofs.WordResults.{immediate_word, extended_word}
use Rattle.bpf_semantics.proofs.WordResults.{reordered_word, filled_word}
use Rattle.bpf_semantics.proofs.WordReads.{IsByte, IsBelow, read_lt}
use Rattle.bpf_semantics.proofs.WordHelpers.{Words, set_word, only_word}
use Rattle.bpf_semantics.proofs.WordHelpers.{both_word, wide_word, helper_word}

-- ---- states

moves : (s : State) (slot : ℕ) → HasWords s → HasWords (moved_to s slot)
moves s slot h = record { registers = h.registers; stack = h.stack; texts = h.texts }

sets : (s : State) (r v : ℕ) → IsWord v → HasWords s → HasWords (with_register s r v)
sets s r v small h =
    record { registers = λ q. by_place q (q == r); stack = h.stack; texts = h.texts }
  where
    by_place : (q : ℕ) (b : Bool) (x : ℕ)
        → (if b then Some v else s.registers q) ≡ Some x → IsWord x
    by_place q true x e = let is : v ≡ x = cc in omega (arith, is, small)
    by_place q false x e = h.registers q x e

gives : (s : State) (v : ℕ) → IsWord v → HasWords s → HasWords (with_result s v)
gives s v small h =
    record { registers = λ q. by_place q (q == 0) (nat_le q 5); stack = h.stack; texts = h.texts }
  where
    by_place : (q : ℕ) (b c : Bool) (x : ℕ)
        → (if b then Some v else if c then None else s.registers q) ≡ Some x → IsWord x
    by_place q true c x e = let is : v ≡ x = cc in omega (arith, is, small)
    by_place q false true x e = absurd cc
    by_place q false false x e = h.registers q x e

stores : (s : State) (place n v : ℕ) → HasWords s
    → HasWords (record s { stack = with_bytes s.stack place n v })
stores s place n v h = record {
  registers = h.registers;
  stack = λ k. by_place k (nat_le place k && nat_lt k (place + n));
  texts = h.texts;
}
  where
    by_place : (k : ℕ) (inside : Bool) (b : ℕ)
        → (if inside then Some (v / 256 ^ (k - place) % 256) else s.stack k) ≡ Some b → IsByte b
    by_place k true b e =
        let is : v / 256 ^ (k - place) % 256 ≡ b = cc in
        let small = mod_below (v / 256 ^ (k - place)) 256 (omega arith) in omega (arith, is, small)
    by_place k false b e = h.stack k b e

-- ---- outcomes

either : (b : Bool) (o q : Outcome) → GivesWords o → GivesWords q → GivesWords (if b then o else q)
either true o q left right = left
either false o q left right = right

write_words : (s : State) (width : ℕ) (dst : Reg) (o : Option ℕ) → HasWords s → Words o
    → GivesWords (write s width dst o)
write_words s width dst None h v = tt
write_words s width dst (Some x) h v = either (number_of dst == 10) Trap
    (go_to (with_register s (number_of dst) x) (s.slot + width)) tt
    (moves (with_register s (number_of dst) x) (s.slot + width) (sets s (number_of dst) x v h))

jump_words : (s : State) (o : Option ℕ) → HasWords s → GivesWords (jump_to s o)
jump_words s None h = tt
jump_words s (Some slot) h = moves s slot h

branch_words : (s : State) (offset : ℤ) (o : Option Bool) → HasWords s
    → GivesWords (branch s offset o)
branch_words s offset None h = tt
branch_words s offset (Some taken) h = either taken (jump_to s (landing s.slot offset))
    (go_to s (s.slot + 1)) (jump_words s (landing s.slot offset) h) (moves s (s.slot + 1) h)

finish_words : (o : Option ℕ) → Words o → GivesWords (finish o)
finish_words None h = tt
finish_words (Some v) h = h

answer_words : (s : State) (o : Option ℕ) → HasWords s → Words o → GivesWords (answer s o)
answer_words s None h v = tt
answer_words s (Some x) h v = moves (with_result s x) (s.slot + 1) (gives s x v h)

moved_words : (t : State) (b : Bool) → HasWords t → GivesWords (moved (if b then Some t else None))
moved_words t true h = moves t (t.slot + 1) h
moved_words t false h = tt

-- ---- counters

below_limit : (c v : ℕ) → v < limit c → IsWord v
below_limit c v = by_width (nat_lt c 4096)
  where
    by_width : (b : Bool) → v < 2 ^ (if b then 64 else 32) → IsWord v
    by_width true h = h
    by_width false h = omega (arith, h)

-- a reply that fits its cell is a word
reply_word : (c : ℕ) (op : CellOp) (reply : ℕ) → CanReply c op reply → IsWord reply
reply_word c (cell.Store x) reply h = omega (arith, h)
reply_word c cell.Load reply h = below_limit c reply h
reply_word c (cell.Add x) reply h = below_limit c reply h
reply_word c (cell.Or x) reply h = below_limit c reply h
reply_word c (cell.And x) reply h = below_limit c reply h
reply_word c (cell.Xor x) reply h = below_limit c reply h
reply_word c (cell.Swap x) reply h = below_limit c reply h
reply_word c (cell.CompareExchange x y) reply h = below_limit c reply h

ask_words : (s : State) (c : ℕ) (op : CellOp) (dst : Option Reg) → HasWords s
    → GivesWords (operate s c op dst)
ask_words s c op None h = λ reply fits. moves s (s.slot + 1) h
ask_words s c op (Some dst) h = either (number_of dst == 10) Trap
    (Operates c op (λ reply. moved_to (with_register s (number_of dst) reply) (s.slot + 1))) tt
    (λ reply fits. moves (with_register s (number_of dst) reply) (s.slot + 1)
    (sets s (number_of dst) reply (reply_word c op reply fits) h))

reach_words : (o : Option ℕ) (counter : ℕ → Outcome) (memory : Outcome)
    → ((c : ℕ) → GivesWords (counter c)) → GivesWords memory → GivesWords (reach o counter memory)
reach_words None counter memory at_cell else_memory = else_memory
reach_words (Some c) counter memory at_cell else_memory = at_cell c

store_asks_words : (s : State) (size : Size) (o : Option ℕ) (c : ℕ) → HasWords s
    → GivesWords (store_operates s size o c)
store_asks_words s size None c h = tt
store_asks_words s size (Some v) c h = ask_words s c (cell.Store (cut (byte_count size) v)) None h

atomic_words : (s : State) (op : AtomicOp) (size : AtomicSize) (dst src : Reg) (offset : ℤ)
    → HasWords s → GivesWords (needed (atomic_operates s op size dst src offset))
atomic_words s op size dst src offset h = on_base (register s dst)
  where
    on_operands : (c : ℕ) (o q : Option ℕ)
        → GivesWords (needed (o >>= λ r0. q >>= λ v. Some (operate s
        c (cell_op op (cut (atomic_count size) r0) (cut (atomic_count size) v)) (fetched op src))))
    on_operands c None q = tt
    on_operands c (Some r0) None = tt
    on_operands c (Some r0) (Some v) = ask_words s c
        (cell_op op (cut (atomic_count size) r0) (cut (atomic_count size) v)) (fetched op src) h

    on_cell : (o : Option ℕ)
        → GivesWords
        (needed (o >>= λ c. expected op s >>= λ r0. register s src >>= λ v. Some (operate s
        c (cell_op op (cut (atomic_count size) r0) (cut (atomic_count size) v)) (fetched op src))))
    on_cell None = tt
    on_cell (Some c) = on_operands c (expected op s) (register s src)

    on_base : (o : Option ℕ)
        → GivesWords (needed (o >>= λ base. cell_at (address_of base offset) (atomic_count size)
        >>= λ c. expected op s >>= λ r0. register s src >>= λ v. Some (operate s c
        (cell_op op (cut (atomic_count size) r0) (cut (atomic_count size) v)) (fetched op src))))
    on_base None = tt
    on_base (Some base) = on_cell (cell_at (address_of base offset) (atomic_count size))

-- ---- loads and stores

filled_words : (kind : LoadKind) (o : Option ℕ) → IfSome o (IsBelow (load_count kind))
    → Words (o >>= λ n. Some (filled kind n))
filled_words kind None h = tt
filled_words kind (Some n) h = filled_word kind n h

loaded_words : (s : State) (kind : LoadKind) (base : Option ℕ) (offset : ℤ) → HasWords s
    → Words (loaded s kind base offset)
loaded_words s kind None offset h = tt
loaded_words s kind (Some b) offset h =
    filled_words kind (read_at s (address_of b offset) (load_count kind))
    (read_lt s (address_of b offset) (load_count kind) h)

store_words : (s : State) (size : Size) (base : Option ℕ) (offset : ℤ) (value : Option ℕ)
    → HasWords s → GivesWords (store s size base offset value)
store_words s size None offset value h = tt
store_words s size (Some b) offset None h = reach_words (store_cell size (Some b) offset)
    (store_operates s size None) Trap (λ c. store_asks_words s size None c h) tt
store_words s size (Some b) offset (Some v) h = reach_words (store_cell size (Some b) offset)
    (store_operates s size (Some v)) _ (λ c. store_asks_words s size (Some v) c h)
    (moved_words (record s {
      stack = with_bytes s.stack (address_of b offset - stack_start) (byte_count size) v;
    }) (is_in_stack (address_of b offset) (byte_count size))
    (stores s (address_of b offset - stack_start) (byte_count size) v h))

-- ---- one instruction

register_word : (s : State) (r : Reg) → HasWords s → Words (register s r)
register_word s r h = set_word (register s r) (h.registers (number_of r))

operand_word : (s : State) (bits : Bits) (o : Operand) → FitsSigned w32 (imm_field o) → HasWords s
    → Words (operand s bits o)
operand_word s bits (Imm k) fits h = immediate_word bits k fits
operand_word s bits (Register r) fits h = register_word s r h

act_words : FitsWidth → (shape : AppShape) (s : State) (i : Insn) → IsShape shape → IsEncodable i
    → HasWords s → GivesWords (act shape s i)
act_words fit shape s (Alu bits op dst src) shaped e h =
    write_words s 1 dst (both (alu_result bits op) (register s dst) (operand s bits src)) h
    (both_word (alu_result bits op) (register s dst) (operand s bits src) (register_word s dst h)
    (operand_word s bits src e.first.imm h) (alu_word fit bits op))
act_words fit shape s (Mov bits dst src) shaped e h =
    write_words s 1 dst (only (word bits) (operand s bits src)) h (only_word (word bits)
    (operand s bits src) (operand_word s bits src e.first.imm h) (is_word bits))
act_words fit shape s (MovSx extension dst src) shaped e h =
    write_words s 1 dst (only (extended extension) (register s src)) h
    (only_word (extended extension) (register s src) (register_word s src h)
    (λ x small. extended_word extension x))
act_words fit shape s (Neg bits dst) shaped e h =
    write_words s 1 dst (only (negated bits) (register s dst)) h
    (only_word (negated bits) (register s dst) (register_word s dst h) (negated_word fit bits))
act_words fit shape s (End order size dst) shaped e h =
    write_words s 1 dst (only (reordered order size) (register s dst)) h
    (only_word (reordered order size) (register s dst) (register_word s dst h)
    (λ x small. reordered_word order size x))
act_words fit shape s (Jump distance) shaped e h =
    jump_words s (landing s.slot (slots_moved distance)) h
act_words fit shape s (JumpIf bits condition left right offset) shaped e h =
    branch_words s offset (both (holds bits condition) (register s left) (operand s bits right)) h
act_words fit shape s (Call helper) shaped e h =
    answer_words s (helper_result shape s helper) h (helper_word shape s helper shaped h)
act_words fit shape s Exit shaped e h =
    finish_words (s.registers 0) (set_word (s.registers 0) (h.registers 0))
act_words fit shape s (Load kind dst src offset) shaped e h =
    reach_words (load_cell kind (register s src) offset) (λ c. operate s c cell.Load (Some dst))
    (write s 1 dst (loaded s kind (register s src) offset))
    (λ c. ask_words s c cell.Load (Some dst) h) (write_words s 1 dst
    (loaded s kind (register s src) offset) h (loaded_words s kind (register s src) offset h))
act_words fit shape s (StoreImm size dst offset imm) shaped e h =
    store_words s size (register s dst) offset (Some (immediate Bits64 imm)) h
act_words fit shape s (Store size dst src offset) shaped e h =
    store_words s size (register s dst) offset (register s src) h
act_words fit shape s (Atomic op size dst src offset) shaped e h =
    atomic_words s op size dst src offset h
act_words fit shape s (Wide dst value) shaped e h =
    write_words s 2 dst (wide_value shape value) h (wide_word shape value e.first.imm e.number)

at_words : FitsWidth → (shape : AppShape) (s : State) (o : Option Insn) → IsShape shape
    → ((i : Insn) → o ≡ Some i → IsEncodable i) → HasWords s → GivesWords (act_at shape s o)
at_words fit shape s None shaped code h = tt
at_words fit shape s (Some i) shaped code h = act_words fit shape s i shaped (code i refl) h

pub keeps_words : FitsWidth → (p : ShapedProgram) (s : State) → KeepsWords p s
keeps_words fit p s shaped code h =
    at_words fit p.shape s (at p.code s.slot) shaped (code s.slot) h
