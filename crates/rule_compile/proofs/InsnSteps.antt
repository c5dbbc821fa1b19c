-- Each instruction of a rule's code as a step: it breaks no rule, and leads to what is known after
-- it.
use Rattle.std.proofs.Common.{◌≡◌, ℕ, zero, suc, ◌+◌, ◌≤◌, ℤ, pos, List, [], ◌∷◌, Some, None}
use Rattle.std.proofs.Common.{false, refl, sym, ap, subst, arith, length-drop, get_or-drop}
use Rattle.std.specs.Prelude.{◌==◌}
use Rattle.std.proofs.lemmas.Bool.{le-leb}
use Rattle.bpf_insn.specs.declared.insn.Insn.TheVariants.{Mov, Exit, Wide}
use Rattle.bpf_insn.specs.declared.operand.Bits.TheVariants.{Bits64}
use Rattle.bpf_insn.specs.declared.operand.Operand.TheVariants.{Imm, Register}
use Rattle.bpf_insn.specs.declared.operand.WideValue.TheVariants.{Number as WideNumber}
use Rattle.bpf_insn.specs.declared.reg.Reg.{Reg}
use Rattle.bpf_insn.specs.Program.{Program}
use Rattle.bpf_insn.specs.Table.{number_of}
use Rattle.cells.specs.Arrays.{AppShape}
use Rattle.abs_value.specs.declared.number.Number.{Number}
use Rattle.abs_value.specs.declared.value.Abs.{Abs}
use Rattle.abs_value.specs.declared.value.Abs.TheVariants.{Unusable, Num, Ctx}
use Rattle.abs_value.specs.declared.value.Abs.TheVariants.{Stk, Map, MayCell, Cell}
use Rattle.abs_value.specs.declared.state.AbsState.{AbsState}
use Rattle.abs_value.specs.Numbers.{single, up_to, least, most}
use Rattle.abs_value.specs.Values.{is_unusable, copied_value}
use Rattle.abs_value.specs.Lookups.{called_registers, called}
use Rattle.abs_value.specs.States.{register_at, value_at, value_of, with_value}
use Rattle.bpf_checks.specs.Rules.{first_rule}
use Rattle.bpf_verify.specs.Table.{SlotFacts, IsWider, HasFacts}
use Rattle.rule_compile.specs.Instructions as insn
use Rattle.rule_compile.proofs.Typed.{IsStep, Leads, entry_at}
use Rattle.rule_compile.proofs.Entries.{any, Takes, writes, knows_write}
use Rattle.rule_compile.proofs.Narrowings.{wider_at, number_in, tidied_lies}

-- the next entry covers the result of an instruction
pub onward : (q : Program) (ds : List SlotFacts) (k : ℕ) (d next : SlotFacts)
    (make : AbsState → AbsState)
    → Takes q ds k next → ((e : AbsState) → HasFacts d e → HasFacts next (make e))
    → Leads q ds k d (λ e. Some (make e))
onward q ds k d next make takes h = (
  takes.place,
  λ e f knows is. let same : make e ≡ f = cc in
      subst (λ (x : AbsState). HasFacts (entry_at ds k) x) same (takes.known (make e) (h e knows)),
)

-- ---- registers

usable_in : (c v : Abs) → is_unusable c ≡ false → IsWider c v → is_unusable v ≡ false
usable_in Unusable v some h = absurd cc
usable_in (Num c) (Num a) some h = refl
usable_in (Num c) v some h = absurd cc
usable_in (Ctx c) (Ctx a) some h = refl
usable_in (Ctx c) v some h = absurd cc
usable_in (Stk c) v some h = ap is_unusable (sym h)
usable_in (Map c) v some h = ap is_unusable (sym h)
usable_in (MayCell c) v some h = ap is_unusable (sym h)
usable_in (Cell c) v some h = ap is_unusable (sym h)

-- a copied number is tidied once more
copied_within : (c v : Abs) → IsWider c v → IsWider c (copied_value Bits64 v)
copied_within Unusable v h = tt
copied_within (Num c) (Num a) h = tidied_lies (least c) (most c) a.range a.bits h
copied_within (Num c) v h = absurd cc
copied_within (Ctx c) (Ctx a) h = h
copied_within (Ctx c) v h = absurd cc
copied_within (Stk c) v h = subst (λ (x : Abs). Stk c ≡ copied_value Bits64 x) h refl
copied_within (Map c) v h = subst (λ (x : Abs). Map c ≡ copied_value Bits64 x) h refl
copied_within (MayCell c) v h = subst (λ (x : Abs). MayCell c ≡ copied_value Bits64 x) h refl
copied_within (Cell c) v h = subst (λ (x : Abs). Cell c ≡ copied_value Bits64 x) h refl

-- ---- calls

-- R0 has a result, and R1 to R5 are unset
abbrev pub calls : SlotFacts → Abs → SlotFacts
calls d v = record { registers = called_registers d.registers v; set = d.set }

answered : (vs es : List Abs) (v w : Abs)
    → ((r : ℕ) → IsWider (register_at vs r) (register_at es r)) → IsWider v w → (r : ℕ)
    → IsWider (register_at (called_registers vs v) r) (register_at (called_registers es w) r)
answered vs es v w h hv zero = hv
answered vs es v w h hv (suc zero) = tt
answered vs es v w h hv (suc (suc zero)) = tt
answered vs es v w h hv (suc (suc (suc zero))) = tt
answered vs es v w h hv (suc (suc (suc (suc zero)))) = tt
answered vs es v w h hv (suc (suc (suc (suc (suc zero))))) = tt
answered vs es v w h hv (suc (suc (suc (suc (suc (suc r)))))) =
    rw (get_or-drop 6 vs r Unusable, get_or-drop 6 es r Unusable) (h (6 + r))

pub knows_call : (d : SlotFacts) (e : AbsState) (v w : Abs) → HasFacts d e → IsWider v w
    → HasFacts (calls d v) (record e { registers = called_registers e.registers w })
knows_call d e v w h hv = record {
  long = let left = length-drop 6 e.registers in omega (arith, left, h.long);
  wide = h.wide;
  each = answered d.registers e.registers v w h.each hv;
  bytes = h.bytes;
}

module _ (shape : AppShape) where
  move_passes : (e : AbsState) (r : Reg) (k : ℤ) → (number_of r == 10) ≡ false
      → first_rule shape e (Mov Bits64 r (Imm k)) ≡ None
  unfolding first_rule
  move_passes e r k frame = rw frame refl

  copy_passes : (e : AbsState) (dst src : Reg) (v : Abs) → value_of e src ≡ v
      → is_unusable v ≡ false → (number_of dst == 10) ≡ false
      → first_rule shape e (Mov Bits64 dst (Register src)) ≡ None
  unfolding first_rule
  copy_passes e dst src Unusable is some frame = absurd cc
  copy_passes e dst src (Num a) is some frame = rw (is, frame) refl
  copy_passes e dst src (Ctx a) is some frame = rw (is, frame) refl
  copy_passes e dst src (Stk a) is some frame = rw (is, frame) refl
  copy_passes e dst src (Map a) is some frame = rw (is, frame) refl
  copy_passes e dst src (MayCell a) is some frame = rw (is, frame) refl
  copy_passes e dst src (Cell a) is some frame = rw (is, frame) refl

  -- mov r, n
  pub set_step : (r : Reg) (n : ℕ) (v : Abs) (d : SlotFacts) (q : Program) (ds : List SlotFacts)
      → (number_of r == 10) ≡ false → IsWider v (Num (single n)) → Takes q ds 0 (writes d r v)
      → IsStep shape d (insn.set_argument r n) q ds
  set_step r n v d q ds frame wide takes = record {
    half = tt;
    passes = λ e h. move_passes e r (pos n) frame;
    next = λ s. onward q ds 0 d (writes d r v)
        (λ e. with_value e r (copied_value Bits64 (Num (single n)))) takes
        (λ e h. knows_write d e r v (copied_value Bits64 (Num (single n))) h
        (copied_within v (Num (single n)) wide));
    jump = tt;
  }

  -- mov dst, src
  pub copy_step : (dst src : Reg) (v : Abs) (d : SlotFacts) (q : Program) (ds : List SlotFacts)
      → (number_of dst == 10) ≡ false → is_unusable v ≡ false
      → register_at d.registers (number_of src) ≡ v
      → Takes q ds 0 (writes d dst v) → IsStep shape d (Mov Bits64 dst (Register src)) q ds
  copy_step dst src v d q ds frame some is takes = record {
    half = tt;
    passes = λ e h. copy_passes e dst src (value_of e src) refl
        (usable_in v (value_of e src) some (wider_at d e (number_of src) v h is)) frame;
    next = λ s. onward q ds 0 d (writes d dst v)
        (λ e. with_value e dst (copied_value Bits64 (value_of e src))) takes
        (λ e h. knows_write d e dst v (copied_value Bits64 (value_of e src)) h
        (copied_within v (value_of e src) (wider_at d e (number_of src) v h is)));
    jump = tt;
  }

  -- ---- the end

  exit_passes : (e : AbsState) (a : Number) → value_at e 0 ≡ Num a → most a ≤ shape.releases
      → first_rule shape e Exit ≡ None
  unfolding first_rule
  exit_passes e a is hi = rw (is, le-leb (most a) shape.releases hi) refl

  pub exit_step : (d : SlotFacts) (ds : List SlotFacts)
      → register_at d.registers 0 ≡ Num (up_to shape.releases) → IsStep shape d Exit [] ds
  exit_step d ds zero_is = record {
    half = tt;
    passes = λ e h. let n = number_in (up_to shape.releases) (value_at e 0)
        (wider_at d e 0 (Num (up_to shape.releases)) h zero_is) in exit_passes e n.0 n.1 n.2.2;
    next = refl;
    jump = tt;
  }

  -- ---- numbers of 64 bits

  wide_passes : (e : AbsState) (r : Reg) (n : ℕ) → (number_of r == 10) ≡ false
      → first_rule shape e (Wide r (WideNumber n)) ≡ None
  unfolding first_rule
  wide_passes e r n frame = rw frame refl

  pub wide_step : (r : Reg) (n : ℕ) (v : Abs) (d : SlotFacts) (q : Program) (ds : List SlotFacts)
      → (number_of r == 10) ≡ false → IsWider v (Num (single n))
      → Takes (None ∷ q) ds 1 (writes d r v)
      → IsStep shape d (Wide r (WideNumber n)) (None ∷ q) ds
  wide_step r n v d q ds frame wide takes = record {
    half = refl;
    passes = λ e h. wide_passes e r n frame;
    next = λ s. onward (None ∷ q) ds 1 d (writes d r v) (λ e. with_value e r (Num (single n))) takes
        (λ e h. knows_write d e r v (Num (single n)) h wide);
    jump = tt;
  }

  -- ---- calls

  bucket_passes : (e : AbsState) (a : Number) → value_at e 1 ≡ Num a
      → first_rule shape e (insn.call 4) ≡ None
  unfolding first_rule
  bucket_passes e a is = rw is refl

  pub bucket_step : (d : SlotFacts) (q : Program) (ds : List SlotFacts)
      → register_at d.registers 1 ≡ Num any → Takes q ds 0 (calls d (Num any))
      → IsStep shape d (insn.call 4) q ds
  bucket_step d q ds one takes = record {
    half = tt;
    passes = λ e h. let n = number_in any (value_at e 1) (wider_at d e 1 (Num any) h one) in
        bucket_passes e n.0 n.1;
    next = λ s. onward q ds 0 d (calls d (Num any)) (λ e. called e (pos 4) s) takes
        (λ e h. knows_call d e (Num any) (Num (up_to 9999)) h
        (omega arith, omega arith, omega arith));
    jump = tt;
  }
