-- Loads and stores, by the kind of their address.
use Rattle.std.proofs.Common.{◌≡◌, ℕ, ◌+◌, ℤ, [], ◌∷◌, Some, Bool, true, false, refl, FitsSigned}
use Rattle.std.specs.Prelude.{◌||◌, ◌&&◌, ◌==◌}
use Rattle.std.specs.Int.{w16, w32}
use Rattle.bpf_insn.specs.declared.operand.Bits.TheVariants.{Bits64}
use Rattle.bpf_insn.specs.declared.operand.LoadKind.{LoadKind}
use Rattle.bpf_insn.specs.declared.operand.Size.{Size}
use Rattle.bpf_insn.specs.declared.reg.Reg.{Reg}
use Rattle.bpf_insn.specs.declared.insn.Insn.TheVariants.{Load, StoreImm, Store}
use Rattle.bpf_insn.specs.Table.{number_of}
use Rattle.bpf_insn.specs.Words.{immediate}
use Rattle.cells.specs.Arrays.{AppShape, IsShape}
use Rattle.bpf_semantics.specs.Memory.{context_size, stack_size}
use Rattle.bpf_semantics.specs.Reads.{load_count, byte_count}
use Rattle.bpf_semantics.specs.State.{State, HasWords}
use Rattle.bpf_semantics.specs.Step.{load, store, act}
use Rattle.abs_value.specs.declared.value.Abs.{Abs}
use Rattle.abs_value.specs.declared.value.Abs.TheVariants.{Unusable, Num, Ctx}
use Rattle.abs_value.specs.declared.value.Abs.TheVariants.{Stk, Map, MayCell, Cell}
use Rattle.abs_value.specs.declared.state.AbsState.{AbsState}
use Rattle.abs_value.specs.Numbers.{single}
use Rattle.abs_value.specs.Values.{is_unusable}
use Rattle.abs_value.specs.States.{value_of, with_value}
use Rattle.abs_value.specs.Covers.{IsWord, Includes, IsRepresented}
use Rattle.bpf_checks.specs.Reads.{load_access, store_access}
use Rattle.bpf_checks.specs.Memory.{lies_in, is_outside, changes_context, is_no_address}
use Rattle.bpf_checks.specs.Memory.{reaches_quota, stack_place, meets_unset}
use Rattle.bpf_checks.specs.Transfer.{edge_to, loaded_at, stored_at, edges}
use Rattle.bpf_checks.specs.Sound.{IsSafe}
use Rattle.bpf_checks.proofs.Given.{Given}
use Rattle.bpf_checks.proofs.Passes.{Passes, false_or, not_false}
use Rattle.bpf_checks.proofs.Outcomes.{answers}
use Rattle.bpf_checks.proofs.Computing.{imm_word}
use Rattle.bpf_checks.proofs.CellSteps.{cell_load_safe, cell_store_safe}
use Rattle.bpf_checks.proofs.Regions.{context_load_safe, stack_load_safe, stack_store_safe}

-- ---- loads

load_by : (given : Given) (shape : AppShape) (e : AbsState) (s : State) (kind : LoadKind)
    (dst base : Reg) (offset : ℤ) (a : Abs) (x : ℕ) (h : IsRepresented shape e s)
    → IsShape shape → HasWords s → FitsSigned w16 offset
    → (number_of dst == 10) ≡ false → is_unusable a ≡ false
    → meets_unset e a offset (load_count kind) ≡ false
    → is_outside shape (load_access kind base offset) a ≡ false
    → is_no_address (load_access kind base offset) a ≡ false
    → Includes (answers h) a x → IsSafe shape (edge_to (s.slot + 1)
    (with_value e dst (loaded_at e (stack_place a offset (load_count kind)) kind)) ∷ [])
    (load s kind dst (Some x) offset)
load_by given shape e s kind dst base offset Unusable x h fits w f frame u unset out address inc =
    absurd cc
load_by given shape e s kind dst base offset (Num n) x h fits w f frame u unset out address inc =
    absurd cc
load_by given shape e s kind dst base offset (Map n) x h fits w f frame u unset out address inc =
    absurd cc
load_by given shape e s kind dst base offset
    (MayCell n) x h fits w f frame u unset out address inc = absurd cc
load_by given shape e s kind dst base offset (Ctx from) x h fits w f frame u unset out address inc =
    context_load_safe given shape e s kind dst offset from x h f frame
    (not_false (lies_in context_size from.lo from.hi offset (load_count kind)) out) inc
load_by given shape e s kind dst base offset
    (Stk place) x h fits w f frame u unset out address inc =
    stack_load_safe given shape e s kind dst offset place x h w f frame
    (not_false (lies_in stack_size place place offset (load_count kind)) out) unset inc
load_by given shape e s kind dst base offset (Cell origin) x h fits w f frame u unset out address
    inc = cell_load_safe given shape e s kind dst base offset origin x h fits inc out frame

pub load_safe : (given : Given) (shape : AppShape) (e : AbsState) (s : State) (kind : LoadKind)
    (dst src : Reg) (offset : ℤ) → IsShape shape → FitsSigned w16 offset → HasWords s
    → IsRepresented shape e s → Passes shape e (Load kind dst src offset)
    → IsSafe shape (edges shape s.slot e (Load kind dst src offset))
    (act shape s (Load kind dst src offset))
unfolding edges
load_safe given shape e s kind dst src offset fits f w h ok =
    let u = false_or (is_unusable (value_of e src) || false)
    (meets_unset e (value_of e src) offset (load_count kind)) ok.usable in
    let v = (false_or (is_unusable (value_of e src)) false u.0).0 in
    let a = given.registers (answers h) e s (number_of src) h.covers v in
    rw a.is (load_by given shape e s kind dst src offset
    (value_of e src) a.number h fits w f ok.frame v u.1 ok.inside ok.address a.included)

-- ---- stores

and_true : (b : Bool) → (b && true) ≡ false → b ≡ false
and_true true h = absurd cc
and_true false h = refl

store_by : (given : Given) (shape : AppShape) (e : AbsState) (s : State) (size : Size) (base : Reg)
    (offset : ℤ) (a v : Abs) (x y : ℕ) (h : IsRepresented shape e s)
    → IsShape shape → FitsSigned w16 offset → is_unusable a ≡ false
    → is_outside shape (store_access size base offset) a ≡ false
    → changes_context (store_access size base offset) a ≡ false
    → is_no_address (store_access size base offset) a ≡ false
    → reaches_quota shape (store_access size base offset) a ≡ false
    → Includes (answers h) a x → IsWord y → Includes (answers h) v y → IsSafe shape
    (edge_to (s.slot + 1) (stored_at e (stack_place a offset (byte_count size)) (byte_count size) v)
    ∷ []) (store s size (Some x) offset (Some y))
store_by given shape e s size base offset Unusable v x y h fits f u out context address quota inc
    word value = absurd cc
store_by given shape e s size base offset
    (Num n) v x y h fits f u out context address quota inc word value = absurd cc
store_by given shape e s size base offset
    (Map n) v x y h fits f u out context address quota inc word value = absurd cc
store_by given shape e s size base offset
    (MayCell n) v x y h fits f u out context address quota inc word value = absurd cc
store_by given shape e s size base offset
    (Ctx from) v x y h fits f u out context address quota inc word value = absurd cc
store_by given shape e s size base offset
    (Stk place) v x y h fits f u out context address quota inc word value =
    stack_store_safe given shape e s size offset place x v y h f
    (not_false (lies_in stack_size place place offset (byte_count size)) out) inc word value
store_by given shape e s size base offset
    (Cell origin) v x y h fits f u out context address quota inc word value =
    cell_store_safe given shape e s size base offset origin x y h fits inc out quota

pub store_imm_safe : (given : Given) (shape : AppShape) (e : AbsState) (s : State) (size : Size)
    (dst : Reg) (offset imm : ℤ) → IsShape shape → FitsSigned w16 offset → FitsSigned w32 imm
    → IsRepresented shape e s → Passes shape e (StoreImm size dst offset imm)
    → IsSafe shape (edges shape s.slot e (StoreImm size dst offset imm))
    (act shape s (StoreImm size dst offset imm))
unfolding edges
store_imm_safe given shape e s size dst offset imm fits f g h ok =
    let u = (false_or (is_unusable (value_of e dst)) false
    (false_or (is_unusable (value_of e dst) || false) false ok.usable).0).0 in
    let a = given.registers (answers h) e s (number_of dst) h.covers u in
    rw a.is
    (store_by given shape e s size dst offset (value_of e dst) (Num (single (immediate Bits64 imm)))
    a.number (immediate Bits64 imm) h fits f u ok.inside ok.context ok.address
    (and_true (reaches_quota shape (store_access size dst offset) (value_of e dst)) ok.quota)
    a.included (imm_word Bits64 imm g)
    (given.single (immediate Bits64 imm) (imm_word Bits64 imm g)))

pub store_safe : (given : Given) (shape : AppShape) (e : AbsState) (s : State) (size : Size)
    (dst src : Reg) (offset : ℤ) → IsShape shape → FitsSigned w16 offset → HasWords s
    → IsRepresented shape e s → Passes shape e (Store size dst src offset)
    → IsSafe shape (edges shape s.slot e (Store size dst src offset))
    (act shape s (Store size dst src offset))
unfolding edges
store_safe given shape e s size dst src offset fits f w h ok =
    let u = false_or (is_unusable (value_of e dst)) (is_unusable (value_of e src) || false)
    (false_or _ false ok.usable).0 in
    let v = (false_or (is_unusable (value_of e src)) false u.1).0 in
    let a = given.registers (answers h) e s (number_of dst) h.covers u.0 in
    let b = given.registers (answers h) e s (number_of src) h.covers v in
    rw (a.is, b.is) (store_by given shape e s size dst offset (value_of e dst)
    (value_of e src) a.number b.number h fits f u.0 ok.inside ok.context ok.address
    (and_true (reaches_quota shape (store_access size dst offset) (value_of e dst)) ok.quota)
    a.included (w.registers (number_of src) b.number b.is) b.included)
