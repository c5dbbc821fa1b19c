-- The instructions of a comparison with a text as steps: its words are stored below the top, and
-- the helper reads them.
use Rattle.std.proofs.Common.{◌≡◌, ℕ, zero, suc, ◌+◌, ◌/◌, ◌%◌, ◌<◌, ◌≤◌, pos, negsuc, ◌+ℤ◌}
use Rattle.std.proofs.Common.{List, length-set, Some, None, true, false}
use Rattle.std.proofs.Common.{refl, sym, ap, ◌∙◌, arith, inl, inr}
use Rattle.std.specs.Prelude.{◌==◌, nat_le, nat_lt, min, unsigned_abs}
use Rattle.std.proofs.lemmas.Bool.{cases_Bool, le-leb}
use Rattle.std.proofs.lemmas.Int.{ints}
use Rattle.bpf_insn.specs.declared.reg.Reg.TheVariants.{R2}
use Rattle.bpf_insn.specs.Program.{Program}
use Rattle.cells.specs.Arrays.{AppShape}
use Rattle.abs_value.specs.declared.number.Number.{Number}
use Rattle.abs_value.specs.declared.slot.AbsSlot.{AbsSlot}
use Rattle.abs_value.specs.declared.value.Abs.TheVariants.{Num, Stk}
use Rattle.abs_value.specs.declared.state.AbsState.{AbsState}
use Rattle.abs_value.specs.Numbers.{single, up_to, least, most}
use Rattle.abs_value.specs.Stack.{is_set, is_unset, has_unset}
use Rattle.abs_value.specs.Lookups.{called}
use Rattle.abs_value.specs.States.{register_at, value_at}
use Rattle.bpf_checks.specs.Memory.{lies_in, stack_place}
use Rattle.bpf_checks.specs.Rules.{first_rule}
use Rattle.bpf_checks.specs.Transfer.{after}
use Rattle.bpf_verify.specs.Table.{SlotFacts, HasFacts}
use Rattle.rule_compile.specs.Instructions as insn
use Rattle.rule_compile.proofs.Typed.{IsStep}
use Rattle.rule_compile.proofs.Entries.{any, Takes, writes, knows_write}
use Rattle.rule_compile.proofs.Narrowings.{wider_at, number_in}
use Rattle.rule_compile.proofs.InsnSteps.{onward, calls, knows_call}
use Rattle.rule_compile.proofs.StackBytes.{in_text, more_set, with_text}

module _ (shape : AppShape) where
  -- ---- stores

  in_stack : (left : ℕ) → 3 ≤ left → left < 512 → lies_in 512 512 512 (negsuc left) 4 ≡ true
  in_stack left low high = grind (arith, low, high)

  store_passes : (left word : ℕ) (e : AbsState) → value_at e 10 ≡ Stk 512
      → lies_in 512 512 512 (negsuc left) 4 ≡ true
      → first_rule shape e (insn.store_word left word) ≡ None
  unfolding first_rule
  store_passes left word e ten inside = rw (ten, inside) refl

  below_top : (n left : ℕ) → n + left ≡ 63 → unsigned_abs (pos 512 +ℤ negsuc left) ≡ 448 + n
  below_top n left sum = grind (arith, ints, sum)

  place_is : (n left : ℕ) → n + left ≡ 63 → n % 4 ≡ 0
      → stack_place (Stk 512) (negsuc left) 4 ≡ Some (448 + n)
  place_is n left sum four = rw (in_stack left (omega (arith, sum, four)) (omega (arith, sum)))
      (ap Some (below_top n left sum))

  store_gives : (n left word : ℕ) (d : SlotFacts) (e : AbsState) → n + left ≡ 63 → n % 4 ≡ 0
      → value_at e 10 ≡ Stk 512 → HasFacts (with_text d n) e
      → HasFacts (with_text d (n + 4)) (after shape 0 e (insn.store_word left word))
  store_gives n left word d e sum four ten h =
      let one : nat_le ((448 + n) % 8 + 4) 8 ≡ true =
      le-leb ((448 + n) % 8 + 4) 8 (omega (arith, four)) in
      rw (ten, place_is n left sum four, one) (record {
        long = h.long;
        wide = length-set e.stack ((448 + n) / 8) _ ∙ h.wide;
        each = h.each;
        bytes = more_set e.stack n h.wide (omega (arith, sum)) four h.bytes;
      })

  pub store_step : (n left word : ℕ) (d : SlotFacts) (q : Program) (ds : List SlotFacts)
      → n + left ≡ 63
      → n % 4 ≡ 0 → register_at d.registers 10 ≡ Stk 512 → Takes q ds 0 (with_text d (n + 4))
      → IsStep shape (with_text d n) (insn.store_word left word) q ds
  store_step n left word d q ds sum four ten takes = record {
    half = tt;
    passes = λ e h. store_passes left word e (sym (wider_at (with_text d n) e 10 (Stk 512) h ten))
        (in_stack left (omega (arith, sum, four)) (omega (arith, sum)));
    next = λ s. onward q ds 0 (with_text d n) (with_text d (n + 4))
        (λ e. after shape 0 e (insn.store_word left word)) takes
        (λ e h. store_gives n left word d e sum four
        (sym (wider_at (with_text d n) e 10 (Stk 512) h ten)) h);
    jump = tt;
  }

  -- ---- the address of the text

  point_passes : (e : AbsState) → value_at e 2 ≡ Stk 512
      → first_rule shape e insn.point_at_text ≡ None
  unfolding first_rule
  point_passes e is = rw is refl

  point_gives : (d : SlotFacts) (e : AbsState) → value_at e 2 ≡ Stk 512 → HasFacts d e
      → HasFacts (writes d R2 (Stk 448)) (after shape 0 e insn.point_at_text)
  point_gives d e is h = rw is (knows_write d e R2 (Stk 448) (Stk 448) h refl)

  pub point_step : (d : SlotFacts) (q : Program) (ds : List SlotFacts)
      → register_at d.registers 2 ≡ Stk 512
      → Takes q ds 0 (writes d R2 (Stk 448)) → IsStep shape d insn.point_at_text q ds
  point_step d q ds two takes = record {
    half = tt;
    passes = λ e h. point_passes e (sym (wider_at d e 2 (Stk 512) h two));
    next = λ s. onward q ds 0 d (writes d R2 (Stk 448))
        (λ e. after shape 0 e insn.point_at_text) takes
        (λ e h. point_gives d e (sym (wider_at d e 2 (Stk 512) h two)) h);
    jump = tt;
  }

  -- ---- the helper that compares

  set_byte : (slots : List AbsSlot) (place : ℕ) → is_set slots place ≡ true
      → is_unset slots (pos place) ≡ false
  set_byte slots place h = elim (cases_Bool (nat_lt place 512)) [
    | inl lt ↦ rw (lt, h) refl
    | inr le ↦ rw le refl
  ]

  none_unset : (slots : List AbsSlot) (k : ℕ) → ((j : ℕ) → j < k → is_set slots (448 + j) ≡ true)
      → has_unset slots (pos 448) k ≡ false
  none_unset slots zero h = refl
  none_unset slots (suc k) h = rw (
    none_unset slots k
        (λ j lt. h j (omega (arith, lt))),
    set_byte slots (448 + k) (h k (omega arith)),
  ) refl

  compare_passes : (n : ℕ) (e : AbsState) (a b : Number) → n ≤ 64 → value_at e 1 ≡ Num a
      → value_at e 2 ≡ Stk 448 → value_at e 3 ≡ Num b → least b ≡ n → most b ≡ n
      → has_unset e.stack (pos 448) n ≡ false
      → first_rule shape e (insn.call 2) ≡ None
  unfolding first_rule
  compare_passes n e a b short one two three lo hi set =
      let same : (n == n) ≡ true = grind arith in
      let least : min n 512 ≡ n = omega (arith, short) in
      rw (
        one,
        two,
        three,
        lo,
        hi,
        same,
        least,
        set,
        le-leb n 64 short,
        le-leb (448 + n) 512
            (omega (arith, short)),
      ) refl

  pub compare_step : (n m : ℕ) (d : SlotFacts) (q : Program) (ds : List SlotFacts) → n ≤ 64 → n ≤ m
      → register_at d.registers 1 ≡ Num any → register_at d.registers 2 ≡ Stk 448
      → register_at d.registers 3 ≡ Num (single n)
      → Takes q ds 0 (calls (with_text d m) (Num any))
      → IsStep shape (with_text d m) (insn.call 2) q ds
  compare_step n m d q ds short within one two three takes = record {
    half = tt;
    passes = λ e h.
        let a = number_in any (value_at e 1) (wider_at (with_text d m) e 1 (Num any) h one) in
        let b = number_in (single n) (value_at e 3)
        (wider_at (with_text d m) e 3 (Num (single n)) h three) in
        compare_passes n e a.0 b.0 short a.1
        (sym (wider_at (with_text d m) e 2 (Stk 448) h two)) b.1
        (omega (arith, b.2.0, b.2.1, b.2.2)) (omega (arith, b.2.0, b.2.1, b.2.2))
        (none_unset e.stack n (λ j lt. h.bytes (448 + j) (omega (arith, lt, short))
        (in_text m (448 + j) (omega arith) (omega (arith, lt, within)))));
    next = λ s. onward q ds 0 (with_text d m) (calls (with_text d m) (Num any))
        (λ e. called e (pos 2) s) takes
        (λ e h. knows_call (with_text d m) e (Num any) (Num (up_to 1)) h
        (omega arith, omega arith, omega arith));
    jump = tt;
  }
