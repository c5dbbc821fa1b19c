-- A load of a field of the context as a step.
use Rattle.std.proofs.Common.{◌≡◌, ℕ, ◌+◌, ◌-◌, ◌%◌, ◌^◌, ◌≤◌, pos, List, None}
use Rattle.std.proofs.Common.{Bool, true, false, refl, arith, inl, inr}
use Rattle.std.specs.Prelude.{min, nat_le, ◌==◌, if◌then◌else◌}
use Rattle.std.proofs.Math.Nat.{mod-le, min-le_left}
use Rattle.std.proofs.lemmas.Bool.{cases_Bool, le-leb}
use Rattle.std.proofs.lemmas.Nat.{and_le_l}
use Rattle.bpf_insn.specs.declared.operand.AluOp.TheVariants.{And, Mod}
use Rattle.bpf_insn.specs.declared.operand.Bits.TheVariants.{Bits32, Bits64}
use Rattle.bpf_insn.specs.Arithmetic.{alu_result}
use Rattle.bpf_insn.specs.Table.{number_of}
use Rattle.bpf_insn.specs.Words.{immediate}
use Rattle.bpf_insn.specs.declared.operand.LoadKind.{LoadKind}
use Rattle.bpf_insn.specs.declared.operand.LoadKind.TheVariants as load
use Rattle.bpf_insn.specs.declared.reg.Reg.{Reg}
use Rattle.bpf_insn.specs.declared.reg.Reg.TheVariants.{R2}
use Rattle.bpf_insn.specs.Program.{Program}
use Rattle.bpf_semantics.specs.Reads.{load_count}
use Rattle.cells.specs.Arrays.{AppShape}
use Rattle.abs_value.specs.declared.interval.Interval.{Interval}
use Rattle.abs_value.specs.declared.known_bits.KnownBits.{KnownBits}
use Rattle.abs_value.specs.declared.number.Number.{Number}
use Rattle.abs_value.specs.declared.places.Places.{Places}
use Rattle.abs_value.specs.declared.value.Abs.TheVariants.{Num, Ctx}
use Rattle.abs_value.specs.declared.state.AbsState.{AbsState}
use Rattle.abs_value.specs.Bounds.{is_above_zero, remainder, conjunction}
use Rattle.abs_value.specs.Intervals.{just, is_just, greatest, all_of, cut_interval}
use Rattle.abs_value.specs.Known.{exactly, any_of, and_bits}
use Rattle.abs_value.specs.Numbers.{single, least, most, are_single, cut, tidied}
use Rattle.abs_value.specs.Results.{result, alu_number}
use Rattle.abs_value.specs.Values.{places, loaded_value}
use Rattle.abs_value.specs.States.{register_at, value_at, value_of, with_value}
use Rattle.bpf_checks.specs.Memory.{changes, lies_in, stack_place}
use Rattle.bpf_checks.specs.Reads.{load_use}
use Rattle.bpf_checks.specs.Rules.{first_rule}
use Rattle.bpf_checks.specs.Transfer.{after, loaded_at}
use Rattle.bpf_verify.specs.Table.{SlotFacts, LiesIn, IsWider, HasFacts}
use Rattle.rule_compile.specs.Instructions as insn
use Rattle.rule_compile.proofs.Typed.{IsStep}
use Rattle.rule_compile.proofs.Entries.{any, Takes, writes, knows_write}
use Rattle.rule_compile.proofs.Narrowings.{wider_at, context_in, number_in, le_of, tidied_lies}
use Rattle.rule_compile.proofs.InsnSteps.{onward}

-- ---- a remainder has 32 bits

one_or : (b : Bool) (u v k : ℕ) → u ≤ k → v ≤ k → (if b then u else v) ≤ k
one_or true u v k h g = h
one_or false u v k h g = g

below : (u v k : ℕ) → u ≤ v → v ≤ k → u ≤ k
below u v k h g = omega (arith, h, g)

result_small : (x y : ℕ) → alu_result Bits32 Mod x y ≤ 2 ^ 32 - 1
result_small x y =
    let low : x % 2 ^ 32 ≤ 2 ^ 32 - 1 = omega arith in
    let left : ℕ = x % 2 ^ 32 % (y % 2 ^ 32) in
    one_or (y % 2 ^ 32 == 0) (x % 2 ^ 32) left (2 ^ 32 - 1) low
    (below left (x % 2 ^ 32) (2 ^ 32 - 1) (mod-le (x % 2 ^ 32) (y % 2 ^ 32)) low)

cut_small : (a : Interval) → (cut_interval Bits32 a).hi ≤ 2 ^ 32 - 1
cut_small a = by_one (is_just a)
  where
    by_end : (b : Bool) → nat_le a.hi (greatest Bits32) ≡ b
        → (if b then a else all_of Bits32).hi ≤ 2 ^ 32 - 1
    by_end true h = le_of a.hi (2 ^ 32 - 1) h
    by_end false h = omega arith

    by_one : (b : Bool) → (if b then just (a.lo % 2 ^ 32) else if nat_le a.hi (greatest Bits32) then
        a else all_of Bits32).hi ≤ 2 ^ 32 - 1
    by_one true = omega arith
    by_one false = by_end (nat_le a.hi (greatest Bits32)) refl

range_small : (a b : Interval) (k : ℕ) → a.hi ≤ k → (remainder a b).hi ≤ k
range_small a b k h =
    let lesser = min a.hi (b.hi - 1) in
    one_or (is_above_zero b) lesser a.hi k (below lesser a.hi k (min-le_left a.hi (b.hi - 1)) h) h

single_any : (n : ℕ) → n ≤ 2 ^ 32 - 1 → IsWider (Num any) (Num (single n))
single_any n h = (omega arith, omega arith, omega (arith, h))

-- any remainder of 32-bit numbers, tidied
tidied_any : (a b : Interval) (p : KnownBits) → a.hi ≤ 2 ^ 32 - 1
    → IsWider (Num any) (Num (tidied (remainder a b) p))
tidied_any a b p h =
    let small = range_small a b (2 ^ 32 - 1) h in
    tidied_lies 0 (2 ^ 64 - 1) (remainder a b) p (omega arith, omega arith, omega (arith, small))

any_remainder : (a b : Number) → IsWider (Num any) (Num (alu_number Bits32 Mod a b))
any_remainder a b = by_single (are_single a b)
  where
    by_single : (t : Bool) → IsWider (Num any) (Num (if t then single (alu_result Bits32 Mod
        (least a) (least b)) else result Bits32 Mod (cut Bits32 a) (cut Bits32 b)))
    by_single true =
        single_any (alu_result Bits32 Mod (least a) (least b)) (result_small (least a) (least b))
    by_single false = tidied_any (cut Bits32 a).range (cut Bits32 b).range (any_of Bits32)
        (cut_small a.range)

module _ (shape : AppShape) where
  -- ---- a field of the context

  only_reads : (kind : LoadKind) → changes (load_use kind) ≡ false
  only_reads load.Byte = refl
  only_reads load.Half = refl
  only_reads load.Word = refl
  only_reads load.Double = refl
  only_reads load.SignedByte = refl
  only_reads load.SignedHalf = refl
  only_reads load.SignedWord = refl

  any_loaded : (kind : LoadKind) → IsWider (Num any) (loaded_value kind)
  any_loaded load.Byte = (omega arith, omega arith, omega arith)
  any_loaded load.Half = (omega arith, omega arith, omega arith)
  any_loaded load.Word = (omega arith, omega arith, omega arith)
  any_loaded load.Double = (omega arith, omega arith, omega arith)
  any_loaded load.SignedByte = (omega arith, omega arith, omega arith)
  any_loaded load.SignedHalf = (omega arith, omega arith, omega arith)
  any_loaded load.SignedWord = (omega arith, omega arith, omega arith)

  lies : (a : Places) (offset n : ℕ) → a.hi ≤ 0 → offset + n ≤ 64
      → lies_in 64 a.lo a.hi (pos offset) n ≡ true
  lies a offset n hi within = rw (
    le-leb 0 (a.lo + offset) (omega arith),
    le-leb
        (a.hi + n + offset) 64 (omega (arith, hi, within)),
  ) refl

  load_passes : (kind : LoadKind) (offset : ℕ) (e : AbsState) (a : Places) → value_at e 6 ≡ Ctx a
      → a.hi ≤ 0 → offset + load_count kind ≤ 64
      → first_rule shape e (insn.load_field kind offset) ≡ None
  unfolding first_rule
  load_passes kind offset e a is hi within =
      rw (is, lies a offset (load_count kind) hi within, only_reads kind) refl

  load_gives : (kind : LoadKind) (offset : ℕ) (d : SlotFacts) (e : AbsState) (a : Places)
      → value_at e 6 ≡ Ctx a → HasFacts d e
      → HasFacts (writes d R2 (Num any))
      (with_value e R2 (loaded_at e (stack_place (value_at e 6) (pos offset) (load_count kind))
      kind))
  load_gives kind offset d e a is h =
      rw is (knows_write d e R2 (Num any) (loaded_value kind) h (any_loaded kind))

  pub load_step : (kind : LoadKind) (offset : ℕ) (d : SlotFacts) (q : Program) (ds : List SlotFacts)
      → register_at d.registers 6 ≡ Ctx (places 0 0) → offset + load_count kind ≤ 64
      → Takes q ds 0 (writes d R2 (Num any))
      → IsStep shape d (insn.load_field kind offset) q ds
  load_step kind offset d q ds six within takes = record {
    half = tt;
    passes = λ e h. let c = context_in (places 0 0) (value_at e 6)
        (wider_at d e 6 (Ctx (places 0 0)) h six) in load_passes kind offset e c.0 c.1 c.2.2 within;
    next = λ s. onward q ds 0 d (writes d R2 (Num any))
        (λ e. with_value e R2 (loaded_at e
        (stack_place (value_at e 6) (pos offset) (load_count kind)) kind)) takes
        (λ e h. let c = context_in (places 0 0) (value_at e 6)
        (wider_at d e 6 (Ctx (places 0 0)) h six) in load_gives kind offset d e c.0 c.1 h);
    jump = tt;
  }

  -- mod32 r, n

  remainder_passes : (r : Reg) (m : ℕ) (e : AbsState) (a : Number) → value_of e r ≡ Num a
      → (number_of r == 10) ≡ false → first_rule shape e (insn.take_remainder r m) ≡ None
  unfolding first_rule
  remainder_passes r m e a is frame = rw (is, frame) refl

  remainder_gives : (r : Reg) (m : ℕ) (d : SlotFacts) (e : AbsState) (a : Number)
      → value_of e r ≡ Num a
      → HasFacts d e → HasFacts (writes d r (Num any)) (after shape 0 e (insn.take_remainder r m))
  remainder_gives r m d e a is h =
      let b : Number = single (immediate Bits32 (insn.imm_of m)) in
      rw is (knows_write d e r (Num any) (Num (alu_number Bits32 Mod a b)) h (any_remainder a b))

  pub remainder_step : (r : Reg) (m : ℕ) (d : SlotFacts) (q : Program) (ds : List SlotFacts)
      → (number_of r == 10) ≡ false → register_at d.registers (number_of r) ≡ Num any
      → Takes q ds 0 (writes d r (Num any)) → IsStep shape d (insn.take_remainder r m) q ds
  remainder_step r m d q ds frame is takes = record {
    half = tt;
    passes = λ e h. let n = number_in any (value_of e r) (wider_at d e (number_of r) (Num any) h
        is) in remainder_passes r m e n.0 n.1 frame;
    next = λ s. onward q ds 0 d (writes d r (Num any))
        (λ e. after shape 0 e (insn.take_remainder r m)) takes
        (λ e h. let n = number_in any (value_of e r) (wider_at d e (number_of r) (Num any) h is) in
        remainder_gives r m d e n.0 n.1 h);
    jump = tt;
  }

  -- and r2, mask

  mask_passes : (mask : ℕ) (e : AbsState) (a : Number) → value_at e 2 ≡ Num a
      → first_rule shape e (insn.mask_field mask) ≡ None
  unfolding first_rule
  mask_passes mask e a is = rw is refl

  masked : (a : Number) (mask : ℕ) → LiesIn (least any) (most any) (least a) (most a)
      → IsWider (Num any) (Num (alu_number Bits64 And a (single mask)))
  masked a mask h = elim (cases_Bool (are_single a (single mask))) [
    | inl one ↦ let le = and_le_l (least a) mask in
        rw one (omega arith, omega arith, omega (arith, le, h.1, h.2))
    | inr more ↦ rw more (tidied_lies 0 (2 ^ 64 - 1) (conjunction a.range (just mask))
        (and_bits a.bits (exactly mask)) (omega arith, omega arith, omega (arith, h.2)))
  ]

  mask_gives : (mask : ℕ) (d : SlotFacts) (e : AbsState) (a : Number) → value_at e 2 ≡ Num a
      → LiesIn (least any) (most any) (least a) (most a) → HasFacts d e
      → HasFacts (writes d R2 (Num any)) (after shape 0 e (insn.mask_field mask))
  mask_gives mask d e a is range h =
      rw is (knows_write d e R2 (Num any) (Num (alu_number Bits64 And a (single mask))) h
      (masked a mask range))

  pub mask_step : (mask : ℕ) (d : SlotFacts) (q : Program) (ds : List SlotFacts)
      → register_at d.registers 2 ≡ Num any → Takes q ds 0 (writes d R2 (Num any))
      → IsStep shape d (insn.mask_field mask) q ds
  mask_step mask d q ds two takes = record {
    half = tt;
    passes = λ e h. let n = number_in any (value_at e 2) (wider_at d e 2 (Num any) h two) in
        mask_passes mask e n.0 n.1;
    next = λ s. onward q ds 0 d (writes d R2 (Num any))
        (λ e. after shape 0 e (insn.mask_field mask)) takes
        (λ e h. let n = number_in any (value_at e 2) (wider_at d e 2 (Num any) h two) in
        mask_gives mask d e n.0 n.1 n.2 h);
    jump = tt;
  }
