-- The slots after a store represent the stack after it.
use Rattle.std.proofs.Common.{◌≡◌, ◌≢◌, ℕ, ◌+◌, ◌-◌, ◌*◌, ◌/◌, ◌%◌, ◌^◌, ◌<◌, ◌≤◌}
use Rattle.std.proofs.Common.{List, Option, Some, true, false, refl, sym}
use Rattle.std.proofs.Common.{ap, ◌∙◌, arith, inl, inr, get_or-set_other}
use Rattle.std.specs.Prelude.{◌⊎◌, IsSome, ◌&&◌, nat_le, nat_lt, bit_or, slice_set}
use Rattle.std.specs.Int.{bit_at}
use Rattle.std.proofs.Math.Nat.{div-add-mod'}
use Rattle.std.proofs.lemmas.Bool.{cases_lt, cases_Bool, cases_eq, leb-true}
use Rattle.std.proofs.lemmas.Nat.{shr-shr, pow_pos}
use Rattle.std.proofs.lemmas.Nat.Bits.{bit_at_or, bit_at-zero, bit_at-lt, bit_at_cat_low}
use Rattle.std.proofs.lemmas.Nat.Bits.{bit_at_cat_high, bit_at_ones_above}
use Rattle.bpf_insn.specs.declared.operand.Size.{Size}
use Rattle.bpf_insn.specs.declared.operand.Size.TheVariants as size
use Rattle.bpf_semantics.specs.Memory.{stack_start, stack_size, is_in_stack}
use Rattle.bpf_semantics.specs.State.{State, with_bytes, written_at}
use Rattle.bpf_semantics.specs.Reads.{byte_count}
use Rattle.abs_value.specs.declared.value.Abs.{Abs}
use Rattle.abs_value.specs.declared.slot.AbsSlot.{AbsSlot}
use Rattle.abs_value.specs.declared.slot.AbsSlot.TheVariants.{Kept, Bytes}
use Rattle.abs_value.specs.declared.state.AbsState.{AbsState}
use Rattle.abs_value.specs.States.{with_stored}
use Rattle.abs_value.specs.Laws.{CoversAfter}
use Rattle.abs_value.specs.Stack.{mask_of, slot_at, bits_of, first_bits, next_bits}
use Rattle.abs_value.specs.Stack.{is_whole_slot, with_set, with_written, stored}
use Rattle.abs_value.specs.Covers.{Returns, Includes, IsWord, HasSet}
use Rattle.abs_value.specs.Covers.{CoversSlot, CoversStack, Covers, bytes_of}
use Rattle.abs_value.proofs.Lists.{here, past, other, set_at}
use Rattle.abs_value.proofs.Slots.{mask_set, same_bytes, none_set}

-- ---- which bytes are written

bit_of_run : (n f t : ℕ) → bit_at ((2 ^ n - 1) * 2 ^ f) t ≡ 1 → (f ≤ t) × (t < n + f)
bit_of_run n f t bit =
    let same : (2 ^ n - 1) * 2 ^ f + 0 ≡ (2 ^ n - 1) * 2 ^ f = omega arith in
    elim (cases_lt t f) [
      | inl below ↦
          let e = bit_at_cat_low (2 ^ n - 1) f 0 t below in
          let z = bit_at-zero t in
          absurd (omega (arith, rw same at e, z, bit))
      | inr from ↦ elim (cases_lt t (n + f)) [
        | inl within ↦ (from, within)
        | inr beyond ↦
            let e = bit_at_cat_high (2 ^ n - 1) f 0 t (pow_pos f) from in
            let z = bit_at_ones_above n (t - f) (omega arith) in
            absurd (omega (arith, rw same at e, z, bit))
      ]
    ]

low_bit : (m k : ℕ) → k < 8 → bit_at (m % 2 ^ 8) k ≡ bit_at m k
low_bit m k lt = sym (bit_at_cat_low (m / 2 ^ 8) 8 (m % 2 ^ 8) k lt)
    ∙ ap (λ n. bit_at n k) (div-add-mod' m (2 ^ 8))

high_bit : (m k : ℕ) → bit_at (m / 2 ^ 8) k ≡ bit_at m (8 + k)
high_bit m k = ap (λ n. n % 2) (shr-shr m 8 k)

-- byte k of slot j is one of n bytes from a place on
abbrev pub IsWritten : ℕ → ℕ → ℕ → ℕ → Type 0
IsWritten place n j k = (place ≤ 8 * j + k) × (8 * j + k < place + n)

first_written : (place n k : ℕ) → k < 8 → bit_at (first_bits place n) k ≡ 1
    → IsWritten place n (place / 8) k
first_written place n k lt bit =
    let run = bit_of_run n (place % 8) k (sym (low_bit (bits_of place n) k lt) ∙ bit) in
    (omega (arith, run), omega (arith, run))

next_written : (place n k : ℕ) → bit_at (next_bits place n) k ≡ 1
    → IsWritten place n (place / 8 + 1) k
next_written place n k bit =
    let run = bit_of_run n (place % 8) (8 + k) (sym (high_bit (bits_of place n) k) ∙ bit) in
    (omega (arith, run), omega (arith, run))

-- ---- bytes after a store

byte_written : (stack : ℕ → Option ℕ) (place n x j k : ℕ) → IsWritten place n j k
    → IsSome (bytes_of (with_bytes stack place n x) j k)
byte_written stack place n x j k h =
    let low : nat_le place (8 * j + k) ≡ true = grind (arith, h) in
    let high : nat_lt (8 * j + k) (place + n) ≡ true = grind (arith, h) in
    rw (low, high) refl

-- a byte that was set stays set
byte_kept : (stack : ℕ → Option ℕ) (place n x j k : ℕ) → IsSome (bytes_of stack j k)
    → IsSome (bytes_of (with_bytes stack place n x) j k)
byte_kept stack place n x j k h =
    elim (cases_Bool (nat_le place (8 * j + k) && nat_lt (8 * j + k) (place + n))) [
      | inl is ↦ rw is refl
      | inr is ↦ rw is h
    ]

byte_same : (stack : ℕ → Option ℕ) (place n x j k : ℕ) → (IsWritten place n j k → ⊥)
    → bytes_of (with_bytes stack place n x) j k ≡ bytes_of stack j k
byte_same stack place n x j k apart =
    let test : (nat_le place (8 * j + k) && nat_lt (8 * j + k) (place + n)) ≡ false =
    grind (arith, apart) in
    rw test refl

either_bit : (m n k : ℕ) → bit_at (bit_or m n) k ≡ 1 → (bit_at m k ≡ 1) ⊎ (bit_at n k ≡ 1)
either_bit m n k bit =
    let most = bit_at_or m n k in
    let small = bit_at-lt m k in
    let small_too = bit_at-lt n k in
    elim (cases_eq (bit_at m k) 1) [
      | inl is ↦ inl is
      | inr not_one ↦ inr (omega (arith, most, bit, small, small_too, not_one))
    ]

-- the set bytes of a slot, and those that are written
set_too : (g : Returns) (stack : ℕ → Option ℕ) (place n x j : ℕ) (slot : AbsSlot) (mask : ℕ)
    → CoversSlot g slot (bytes_of stack j)
    → ((k : ℕ) → k < 8 → bit_at mask k ≡ 1 → IsWritten place n j k)
    → HasSet (bit_or (mask_of slot) mask) (bytes_of (with_bytes stack place n x) j)
set_too g stack place n x j slot mask h written k lt bit =
    elim (either_bit (mask_of slot) mask k bit) [
      | inl is ↦ byte_kept stack place n x j k (mask_set g slot (bytes_of stack j) h k lt is)
      | inr is ↦ byte_written stack place n x j k (written k lt is)
    ]

-- ---- a whole slot

byte_is : (stack : ℕ → Option ℕ) (place x j k : ℕ) → k < 8 → place ≡ 8 * j
    → bytes_of (with_bytes stack place 8 x) j k ≡ Some (x / 256 ^ k % 256)
byte_is stack place x j k lt at_start =
    let low : nat_le place (8 * j + k) ≡ true = grind (arith, lt, at_start) in
    let high : nat_lt (8 * j + k) (place + 8) ≡ true = grind (arith, lt, at_start) in
    let behind : 8 * j + k - place ≡ k = omega (arith, at_start) in
    rw (low, high, behind) refl

whole_covers : (g : Returns) (slots : List AbsSlot) (stack : ℕ → Option ℕ) (place x : ℕ) (v : Abs)
    → place % 8 ≡ 0 → CoversStack g slots stack → IsWord x → Includes g v x
    → CoversStack g (slice_set slots (place / 8) (Kept v)) (with_bytes stack place 8 x)
whole_covers g slots stack place x v aligned h wx hv j =
    elim (set_at AbsSlot slots (place / 8) (Kept v) (Bytes 0) j) [
      | here same e ↦ rw e (record {
        number = x;
        word = wx;
        included = hv;
        bytes_are = λ k lt. byte_is stack place x j k lt (omega (arith, same, aligned));
      })
      | past e ↦ rw e (none_set (bytes_of (with_bytes stack place 8 x) j))
      | other apart e ↦ rw e
          (same_bytes g (slot_at slots j) (bytes_of stack j)
          (bytes_of (with_bytes stack place 8 x) j)
          (λ k lt. byte_same stack place 8 x j k (λ w. omega (arith, w, apart, aligned))) (h j))
    ]

-- ---- part of a slot, or of two

one_covers : (g : Returns) (slots : List AbsSlot) (stack : ℕ → Option ℕ) (place n x : ℕ)
    → place % 8 + n ≤ 8 → CoversStack g slots stack
    → CoversStack g (with_set slots (place / 8) (first_bits place n)) (with_bytes stack place n x)
one_covers g slots stack place n x within h j = elim (set_at AbsSlot slots (place / 8)
    (Bytes (bit_or (mask_of (slot_at slots (place / 8))) (first_bits place n))) (Bytes 0) j) [
      | here same e ↦
          rw (e, same) (set_too g stack place n x (place / 8) (slot_at slots (place / 8))
          (first_bits place n) (h (place / 8)) (first_written place n))
      | past e ↦ rw e (none_set (bytes_of (with_bytes stack place n x) j))
      | other apart e ↦ rw e
          (same_bytes g (slot_at slots j) (bytes_of stack j)
          (bytes_of (with_bytes stack place n x) j)
          (λ k lt. byte_same stack place n x j k (λ w. omega (arith, w, apart, within))) (h j))
    ]

-- the set bytes of the next slot are unchanged
mask_next : (slots : List AbsSlot) (i mask : ℕ)
    → slot_at (with_set slots i mask) (i + 1) ≡ slot_at slots (i + 1)
mask_next slots i mask =
    let apart : i + 1 ≢ i = omega arith in
    get_or-set_other slots i (i + 1) (Bytes (bit_or (mask_of (slot_at slots i)) mask))
    (Bytes 0) apart

-- the first of the two slots, or another
first_covers : (g : Returns) (slots : List AbsSlot) (stack : ℕ → Option ℕ) (place n x j : ℕ)
    → n ≤ 8 → j ≢ place / 8 + 1 → CoversStack g slots stack
    → CoversSlot g (slot_at (with_set slots (place / 8) (first_bits place n)) j)
    (bytes_of (with_bytes stack place n x) j)
first_covers g slots stack place n x j short next h = elim (set_at AbsSlot slots (place / 8)
    (Bytes (bit_or (mask_of (slot_at slots (place / 8))) (first_bits place n))) (Bytes 0) j) [
      | here same e ↦
          rw (e, same) (set_too g stack place n x (place / 8) (slot_at slots (place / 8))
          (first_bits place n) (h (place / 8)) (first_written place n))
      | past e ↦ rw e (none_set (bytes_of (with_bytes stack place n x) j))
      | other apart e ↦ rw e
          (same_bytes g (slot_at slots j) (bytes_of stack j)
          (bytes_of (with_bytes stack place n x) j)
          (λ k lt. byte_same stack place n x j k (λ w. omega (arith, w, apart, next, short))) (h j))
    ]

two_covers : (g : Returns) (slots : List AbsSlot) (stack : ℕ → Option ℕ) (place n x : ℕ) → n ≤ 8
    → CoversStack g slots stack
    → CoversStack g (with_set (with_set slots (place / 8) (first_bits place n)) (place / 8 + 1)
    (next_bits place n)) (with_bytes stack place n x)
two_covers g slots stack place n x short h j =
    let first = with_set slots (place / 8) (first_bits place n) in
    elim (set_at AbsSlot first (place / 8 + 1)
    (Bytes (bit_or (mask_of (slot_at first (place / 8 + 1))) (next_bits place n))) (Bytes 0) j) [
      | here same e ↦ rw (e, mask_next slots (place / 8) (first_bits place n), same)
          (set_too g stack place n x (place / 8 + 1) (slot_at slots (place / 8 + 1))
          (next_bits place n) (h (place / 8 + 1)) (λ k lt bit. next_written place n k bit))
      | past e ↦ rw e (none_set (bytes_of (with_bytes stack place n x) j))
      | other apart e ↦ rw e (first_covers g slots stack place n x j short apart h)
    ]

written_covers : (g : Returns) (slots : List AbsSlot) (stack : ℕ → Option ℕ) (place n x : ℕ)
    → n ≤ 8 → CoversStack g slots stack
    → CoversStack g (with_written slots place n) (with_bytes stack place n x)
written_covers g slots stack place n x short h = elim (cases_Bool (nat_le (place % 8 + n) 8)) [
  | inl is ↦ rw is (one_covers g slots stack place n x (leb-true (place % 8 + n) 8 is) h)
  | inr is ↦ rw is (two_covers g slots stack place n x short h)
]

whole_slot : (place n : ℕ) → is_whole_slot place n ≡ true → (n ≡ 8) × (place % 8 ≡ 0)
whole_slot place n is = (grind (arith, is), grind (arith, is))

pub stored_covers : (g : Returns) (slots : List AbsSlot) (stack : ℕ → Option ℕ) (place n x : ℕ)
    (v : Abs) → n ≤ 8 → CoversStack g slots stack → IsWord x → Includes g v x
    → CoversStack g (stored slots place n v) (with_bytes stack place n x)
stored_covers g slots stack place n x v short h wx hv = elim (cases_Bool (is_whole_slot place n)) [
  | inl is ↦
      let whole = whole_slot place n is in
      rw (is, whole.0) (whole_covers g slots stack place x v whole.1 h wx hv)
  | inr is ↦ rw is (written_covers g slots stack place n x short h)
]

-- ---- the state after a store

count_short : (size : Size) → byte_count size ≤ 8
count_short size.Byte = omega arith
count_short size.Half = omega arith
count_short size.Word = omega arith
count_short size.Double = omega arith

pub covers_store : (g : Returns) (e : AbsState) (s : State) (place : ℕ) (size : Size) (v : Abs)
    (x : ℕ) → place + byte_count size ≤ stack_size → Covers g e s → IsWord x → Includes g v x
    → CoversAfter g (with_stored e place (byte_count size) v)
    (written_at s (stack_start + place) (byte_count size) x)
covers_store g e s place size v x within h wx hv =
    let inside : is_in_stack (stack_start + place) (byte_count size) ≡ true =
    grind (arith, within) in
    let behind : stack_start + place - stack_start ≡ place = omega arith in
    rw (inside, behind) (record {
      registers = h.registers;
      stack = stored_covers g e.stack s.stack place (byte_count size) x v
          (count_short size) h.stack wx hv;
    })
