-- A store sets exactly the bytes that it writes, and leaves the other slots unchanged.
use Rattle.std.proofs.Common.{◌≡◌, ◌≢◌, ℕ, ◌+◌, ◌-◌, ◌*◌, ◌/◌, ◌%◌, ◌^◌, ◌<◌, ◌≤◌}
use Rattle.std.proofs.Common.{List, length, Bool, true, false, refl, sym}
use Rattle.std.proofs.Common.{ap, ◌∙◌, arith, inl, inr, get_or-set_other}
use Rattle.std.specs.Prelude.{◌&&◌, ◌||◌, nat_le, nat_lt, ◌==◌, bit_or, slice_set}
use Rattle.std.specs.Int.{bit_at}
use Rattle.std.proofs.Math.Nat.{div-add-mod'}
use Rattle.std.proofs.lemmas.Bool.{cases_lt, cases_eq, cases_Bool, leb-true, leb-false, true≢false}
use Rattle.std.proofs.lemmas.Grind.{get_or-set_at}
use Rattle.std.proofs.lemmas.List.{length-set, set_past}
use Rattle.std.proofs.lemmas.Nat.{shr-shr, pow_pos}
use Rattle.std.proofs.lemmas.Nat.Bits.{bit_at_or, bit_at-zero, bit_at-lt, bit_at_ones}
use Rattle.std.proofs.lemmas.Nat.Bits.{bit_at_ones_above, bit_at_cat_low, bit_at_cat_high}
use Rattle.bpf_semantics.specs.Memory.{stack_size}
use Rattle.abs_value.specs.declared.slot.AbsSlot.{AbsSlot}
use Rattle.abs_value.specs.declared.slot.AbsSlot.TheVariants.{Kept, Bytes}
use Rattle.abs_value.specs.declared.value.Abs.{Abs}
use Rattle.abs_value.specs.Stack.{mask_of, slot_at, is_set, is_whole_slot, with_set}
use Rattle.abs_value.specs.Stack.{bits_of, first_bits, next_bits, with_written, stored}
use Rattle.worked_examples.specs.StoredBytes.{is_written}

abbrev has_bit : ℕ → ℕ → Bool
has_bit m t = bit_at m t == 1

-- ---- the bits of a run of n ones, from bit f on

run_bit : (n f t : ℕ) → has_bit ((2 ^ n - 1) * 2 ^ f) t ≡ (nat_le f t && nat_lt t (n + f))
run_bit n f t =
    let same : (2 ^ n - 1) * 2 ^ f ≡ (2 ^ n - 1) * 2 ^ f + 0 = omega arith in
    let here = ap (λ m. bit_at m t) same in
    elim (cases_lt t f) [
      | inl below ↦
          rw (here ∙ bit_at_cat_low (2 ^ n - 1) f 0 t below ∙ bit_at-zero t) (grind (arith, below))
      | inr from ↦
          let shifted = here ∙ bit_at_cat_high (2 ^ n - 1) f 0 t (pow_pos f) from in
          elim (cases_lt t (n + f)) [
            | inl within ↦ rw (shifted ∙ bit_at_ones n (t - f) (omega (arith, from, within)))
                (grind (arith, from, within))
            | inr beyond ↦ rw (shifted ∙ bit_at_ones_above n (t - f) (omega (arith, from, beyond)))
                (grind (arith, beyond))
          ]
    ]

low_bit : (m k : ℕ) → k < 8 → bit_at (m % 2 ^ 8) k ≡ bit_at m k
low_bit m k lt = sym (bit_at_cat_low (m / 2 ^ 8) 8 (m % 2 ^ 8) k lt)
    ∙ ap (λ n. bit_at n k) (div-add-mod' m (2 ^ 8))

high_bit : (m k : ℕ) → bit_at (m / 2 ^ 8) k ≡ bit_at m (8 + k)
high_bit m k = ap (λ n. n % 2) (shr-shr m 8 k)

either_bit : (m n t : ℕ) → has_bit (bit_or m n) t ≡ (has_bit m t || has_bit n t)
either_bit m n t = grind (arith, bit_at_or m n t, bit_at-lt m t, bit_at-lt n t)

-- ---- the bytes that are written, in the slot of the place and in the next

one_run : (place n byte : ℕ) → place % 8 + n ≤ 8
    → ((byte / 8 == place / 8) && has_bit (first_bits place n) (byte % 8))
    ≡ is_written place n byte
one_run place n byte within =
    rw (low_bit (bits_of place n) (byte % 8) (omega arith), run_bit n (place % 8) (byte % 8))
    (grind (arith, within))

two_runs : (place n byte : ℕ) → n ≤ 8 → 8 < place % 8 + n
    → (((byte / 8 == place / 8) && has_bit (first_bits place n) (byte % 8))
    || ((byte / 8 == place / 8 + 1) && has_bit (next_bits place n) (byte % 8)))
    ≡ is_written place n byte
two_runs place n byte short past =
    let low : nat_lt (byte % 8) (n + place % 8) ≡ true = grind (arith, past) in
    let high : nat_le (place % 8) (8 + byte % 8) ≡ true = grind arith in
    rw (
      low_bit (bits_of place n) (byte % 8) (omega arith),
      run_bit n (place % 8) (byte % 8),
      low,
      high_bit (bits_of place n) (byte % 8),
      run_bit n (place % 8) (8 + byte % 8),
      high,
    )
    (elim (cases_eq (byte / 8) (place / 8)) [
      | inl same ↦ grind (arith, same, past)
      | inr apart ↦
          let test : (byte / 8 == place / 8) ≡ false = grind (arith, apart) in
          rw test (grind (arith, apart, short, past))
    ])

-- ---- a slot that is changed

bytes_here : (slots : List AbsSlot) (mask byte : ℕ) → byte / 8 < length slots
    → is_set (with_set slots (byte / 8) mask) byte
    ≡ (is_set slots byte || has_bit mask (byte % 8))
bytes_here slots mask byte lt =
    let old = mask_of (slot_at slots (byte / 8)) in
    ap (λ slot. has_bit (mask_of slot) (byte % 8))
    (get_or-set_at slots (byte / 8) (byte / 8) (Bytes (bit_or old mask)) (Bytes 0) refl lt)
    ∙ either_bit old mask (byte % 8)

or_none : (b : Bool) → b ≡ (b || false)
or_none true = refl
or_none false = refl

bytes_set : (slots : List AbsSlot) (i mask byte : ℕ) → i < length slots
    → is_set (with_set slots i mask) byte
    ≡ (is_set slots byte || ((byte / 8 == i) && has_bit mask (byte % 8)))
bytes_set slots i mask byte lt = elim (cases_eq (byte / 8) i) [
  | inl same ↦
      let test : (byte / 8 == byte / 8) ≡ true = grind arith in
      rw (← same, test) (bytes_here slots mask byte (omega (arith, same, lt)))
  | inr apart ↦
      let test : (byte / 8 == i) ≡ false = grind (arith, apart) in
      rw (
        get_or-set_other slots i (byte / 8) (Bytes (bit_or (mask_of (slot_at slots i)) mask))
            (Bytes 0) apart,
        test,
      ) (or_none (is_set slots byte))
]

-- ---- stores

SetsWritten : List AbsSlot → ℕ → ℕ → ℕ → List AbsSlot → Type 0
SetsWritten slots place n byte after =
    is_set after byte ≡ (is_set slots byte || is_written place n byte)

one_sets : (slots : List AbsSlot) (place n byte : ℕ) → 8 * length slots ≡ stack_size
    → place + n ≤ stack_size → place % 8 + n ≤ 8
    → SetsWritten slots place n byte (with_set slots (place / 8) (first_bits place n))
unfolding SetsWritten
one_sets slots place n byte long fits within = elim (cases_lt (place / 8) (length slots)) [
  | inl lt ↦ bytes_set slots (place / 8) (first_bits place n) byte lt
      ∙ ap (λ b. is_set slots byte || b) (one_run place n byte within)
  | inr past ↦
      let none : is_written place n byte ≡ false = grind (arith, long, fits, past) in
      rw (
        set_past slots (place / 8)
            (Bytes (bit_or (mask_of (slot_at slots (place / 8))) (first_bits place n))) past,
        none,
      )
      (or_none (is_set slots byte))
]

or_assoc : (a b c : Bool) → ((a || b) || c) ≡ (a || (b || c))
or_assoc true b c = refl
or_assoc false b c = refl

two_sets : (slots : List AbsSlot) (place n byte : ℕ) → 8 * length slots ≡ stack_size → n ≤ 8
    → place + n ≤ stack_size → 8 < place % 8 + n
    → SetsWritten slots place n byte (with_set (with_set slots (place / 8) (first_bits place n))
    (place / 8 + 1) (next_bits place n))
unfolding SetsWritten
two_sets slots place n byte long short fits past =
    let first = with_set slots (place / 8) (first_bits place n) in
    let here = (byte / 8 == place / 8) && has_bit (first_bits place n) (byte % 8) in
    let next = (byte / 8 == place / 8 + 1) && has_bit (next_bits place n) (byte % 8) in
    let same = length-set slots (place / 8)
    (Bytes (bit_or (mask_of (slot_at slots (place / 8))) (first_bits place n))) in
    bytes_set first (place / 8 + 1) (next_bits place n) byte (omega (arith, same, long, fits, past))
    ∙ ap (λ b. b || next) (bytes_set slots (place / 8) (first_bits place n) byte
    (omega (arith, long, fits, past)))
    ∙ or_assoc (is_set slots byte) here next
    ∙ ap (λ b. is_set slots byte || b) (two_runs place n byte short past)

or_all : (b : Bool) → true ≡ (b || true)
or_all true = refl
or_all false = refl

whole_sets : (slots : List AbsSlot) (place byte : ℕ) (v : Abs) → 8 * length slots ≡ stack_size
    → place + 8 ≤ stack_size → place % 8 ≡ 0
    → SetsWritten slots place 8 byte (slice_set slots (place / 8) (Kept v))
unfolding SetsWritten
whole_sets slots place byte v long fits aligned = elim (cases_eq (byte / 8) (place / 8)) [
  | inl same ↦
      let written : is_written place 8 byte ≡ true = grind (arith, aligned, same) in
      let ones : bit_at 255 (byte % 8) ≡ 1 = bit_at_ones 8 (byte % 8) (omega arith) in
      ap (λ slot. has_bit (mask_of slot) (byte % 8))
      (get_or-set_at slots (place / 8) (byte / 8) (Kept v) (Bytes 0) same
      (omega (arith, long, fits)))
      ∙ rw (ones, written) (or_all (is_set slots byte))
  | inr apart ↦
      let none : is_written place 8 byte ≡ false = grind (arith, aligned, apart) in
      rw (get_or-set_other slots (place / 8) (byte / 8) (Kept v) (Bytes 0) apart, none)
      (or_none (is_set slots byte))
]

pub stored_sets : (slots : List AbsSlot) (place n byte : ℕ) (v : Abs)
    → 8 * length slots ≡ stack_size → n ≤ 8 → place + n ≤ stack_size
    → is_set (stored slots place n v) byte ≡ (is_set slots byte || is_written place n byte)
unfolding SetsWritten
stored_sets slots place n byte v long short fits = elim (cases_Bool (is_whole_slot place n)) [
  | inl whole ↦
      let eight : n ≡ 8 = grind (arith, whole) in
      rw (whole, eight) (whole_sets slots place byte v long (omega (arith, eight, fits))
      (grind (arith, whole)))
  | inr part ↦ rw part (elim (cases_Bool (nat_le (place % 8 + n) 8)) [
    | inl within ↦
        rw within (one_sets slots place n byte long fits (leb-true (place % 8 + n) 8 within))
    | inr past ↦
        rw past (two_sets slots place n byte long short fits (leb-false (place % 8 + n) 8 past))
  ])
]

-- ---- the other slots

not_first : (place n i : ℕ) → 0 < n
    → ((byte : ℕ) → byte / 8 ≡ i → is_written place n byte ≡ false) → i ≢ place / 8
not_first place n i some free same =
    let written : is_written place n place ≡ true = grind (arith, some) in
    true≢false (sym written ∙ free place (sym same))

not_next : (place n i : ℕ) → 8 < place % 8 + n
    → ((byte : ℕ) → byte / 8 ≡ i → is_written place n byte ≡ false) → i ≢ place / 8 + 1
not_next place n i more free same =
    let byte = 8 * (place / 8) + 8 in
    let written : is_written place n byte ≡ true = grind (arith, more) in
    true≢false (sym written ∙ free byte (omega (arith, same)))

others_stay : (slots : List AbsSlot) (place n i : ℕ) → 0 < n → n ≤ 8
    → ((byte : ℕ) → byte / 8 ≡ i → is_written place n byte ≡ false)
    → slot_at (with_written slots place n) i ≡ slot_at slots i
others_stay slots place n i some short free =
    let apart : i ≢ place / 8 = not_first place n i some free in
    let mask = bit_or (mask_of (slot_at slots (place / 8))) (first_bits place n) in
    let first = get_or-set_other slots (place / 8) i (Bytes mask) (Bytes 0) apart in
    elim (cases_Bool (nat_le (place % 8 + n) 8)) [
      | inl within ↦ rw within first
      | inr past ↦
          let more = leb-false (place % 8 + n) 8 past in
          rw past (get_or-set_other (with_set slots (place / 8) (first_bits place n))
          (place / 8 + 1) i _ (Bytes 0) (not_next place n i more free) ∙ first)
    ]

pub slots_stay : (slots : List AbsSlot) (place n i : ℕ) (v : Abs) → 0 < n → n ≤ 8
    → ((byte : ℕ) → byte / 8 ≡ i → is_written place n byte ≡ false)
    → slot_at (stored slots place n v) i ≡ slot_at slots i
slots_stay slots place n i v some short free = elim (cases_Bool (is_whole_slot place n)) [
  | inl whole ↦ rw whole (get_or-set_other slots (place / 8) i (Kept v) (Bytes 0)
      (not_first place n i some free))
  | inr part ↦ rw part (others_stay slots place n i some short free)
]
