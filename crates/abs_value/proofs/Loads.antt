-- A load from the stack reads a number that its value includes.
use Rattle.std.proofs.Common.{◌≡◌, ℕ, zero, suc, ◌+◌, ◌-◌, ◌*◌, ◌/◌, ◌%◌, ◌^◌, ◌<◌, ◌≤◌, pos}
use Rattle.std.proofs.Common.{List, [], ◌∷◌, Option, Some, None}
use Rattle.std.proofs.Common.{Bool, true, false, refl, sym, ap, subst, ◌∙◌, arith, inl, inr}
use Rattle.std.specs.Prelude.{IsSome, ◌==◌, ◌||◌, ◌&&◌, not, nat_lt}
use Rattle.std.specs.Int.{bit_at}
use Rattle.std.proofs.Math.Nat.{pow-succ', mul_comm, div-div-eq-div-mul}
use Rattle.std.proofs.Math.Arith.{mod-mul}
use Rattle.std.proofs.lemmas.Bool.{cases_lt, cases_eq}
use Rattle.std.proofs.lemmas.Int.{ints}
use Rattle.bpf_insn.specs.declared.operand.Bits.TheVariants.{Bits64}
use Rattle.bpf_insn.specs.declared.operand.LoadKind.{LoadKind}
use Rattle.bpf_insn.specs.declared.operand.LoadKind.TheVariants as load
use Rattle.bpf_insn.specs.Words.{little_endian}
use Rattle.bpf_semantics.specs.Memory.{stack_start, stack_size}
use Rattle.bpf_semantics.specs.Memory.{is_in_context, is_in_stack, set_bytes}
use Rattle.bpf_semantics.specs.State.{State, HasWords, read_at}
use Rattle.bpf_semantics.specs.Reads.{load_count, filled}
use Rattle.abs_value.specs.declared.value.Abs.{Abs}
use Rattle.abs_value.specs.declared.slot.AbsSlot.{AbsSlot}
use Rattle.abs_value.specs.declared.slot.AbsSlot.TheVariants.{Kept, Bytes}
use Rattle.abs_value.specs.declared.state.AbsState.{AbsState}
use Rattle.abs_value.specs.Values.{loaded_value}
use Rattle.abs_value.specs.Stack.{mask_of, slot_at, is_unset, has_unset, kept_or, loaded_from}
use Rattle.abs_value.specs.Covers.{Returns, Includes, KeepsNumber}
use Rattle.abs_value.specs.Covers.{CoversSlot, CoversStack, Covers, bytes_of}
use Rattle.abs_value.specs.Laws.{Finds}
use Rattle.abs_value.proofs.ResultsHold.{up_to_holds, full_number_holds}
use Rattle.abs_value.proofs.Slots.{mask_set}

-- ---- set bytes are read

record Reads (stack : ℕ → Option ℕ) (place n : ℕ) : Type 0 where
  bytes : List ℕ
  is : set_bytes stack place n ≡ Some bytes
  small : little_endian bytes < 256 ^ n

AreBytes : (ℕ → Option ℕ) → Type 0
AreBytes stack = (k b : ℕ) → stack k ≡ Some b → b < 256

one_more : (stack : ℕ → Option ℕ) (place n : ℕ) (o : Option ℕ) → AreBytes stack
    → stack place ≡ o → IsSome o → Reads stack (place + 1) n → Reads stack place (suc n)
unfolding AreBytes
one_more stack place n None words e h rest = absurd cc
one_more stack place n (Some b) words e h rest =
    let small : b < 256 = words place b e in
    let power : 256 ^ suc n ≡ 256 * 256 ^ n = pow-succ' 256 n in
    record {
      bytes = b ∷ rest.bytes;
      is = rw (e, rest.is) refl;
      small = rw power (omega (arith, small, rest.small));
    }

-- a byte that isn't unset is set
bit_is : (place b : ℕ) → place < 512 → (nat_lt place 512 && not (b == 1)) ≡ false → b ≡ 1
bit_is place b lt test = grind (arith, lt, test)

false_or : (a b : Bool) → (a || b) ≡ false → (a ≡ false) × (b ≡ false)
false_or true b h = absurd cc
false_or false b h = (refl, h)

byte_set : (g : Returns) (slots : List AbsSlot) (stack : ℕ → Option ℕ) (place : ℕ)
    → CoversStack g slots stack → place < stack_size → is_unset slots (pos place) ≡ false
    → IsSome (stack place)
byte_set g slots stack place h lt test =
    let bit : bit_at (mask_of (slot_at slots (place / 8))) (place % 8) ≡ 1 =
    bit_is place (bit_at (mask_of (slot_at slots (place / 8))) (place % 8)) lt test in
    let there : IsSome (bytes_of stack (place / 8) (place % 8)) =
    mask_set g (slot_at slots (place / 8)) (bytes_of stack (place / 8)) (h (place / 8)) (place % 8)
    (omega arith) bit in
    let whole : 8 * (place / 8) + place % 8 ≡ place = omega arith in
    subst (λ (k : ℕ). IsSome (stack k)) whole there

each_set : (g : Returns) (slots : List AbsSlot) (stack : ℕ → Option ℕ) (place n : ℕ)
    → CoversStack g slots stack → place + n ≤ stack_size → has_unset slots (pos place) n ≡ false
    → (k : ℕ) → k < n → IsSome (stack (place + k))
each_set g slots stack place zero h within test k lt = absurd (omega (arith, lt))
each_set g slots stack place (suc n) h within test k lt =
    let parts = false_or (has_unset slots (pos place) n) (is_unset slots (pos (place + n))) test in
    elim (cases_lt k n) [
      | inl before ↦ each_set g slots stack place n h (omega (arith, within)) parts.0 k before
      | inr from ↦
          let same : place + n ≡ place + k = omega (arith, lt, from) in
          subst (λ (m : ℕ). IsSome (stack m)) same
          (byte_set g slots stack (place + n) h (omega (arith, within)) parts.1)
    ]

reads : (stack : ℕ → Option ℕ) (place n : ℕ)
    → AreBytes stack → ((k : ℕ) → k < n → IsSome (stack (place + k))) → Reads stack place n
reads stack place zero words each = record { bytes = []; is = refl; small = omega arith }
reads stack place (suc n) words each =
    let start : place + 0 ≡ place = omega arith in
    one_more stack place n (stack place) words refl
    (subst (λ (m : ℕ). IsSome (stack m)) start (each 0 (omega arith)))
    (reads stack (place + 1) n words (λ k lt.
    let same : place + suc k ≡ place + 1 + k = omega arith in
    subst (λ (m : ℕ). IsSome (stack m)) same (each (suc k) (omega (arith, lt)))))

pub bytes_there : (g : Returns) (e : AbsState) (s : State) (place n : ℕ)
    → place + n ≤ stack_size → HasWords s → Covers g e s → has_unset e.stack (pos place) n ≡ false
    → IsSome (set_bytes s.stack place n)
unfolding AreBytes
bytes_there g e s place n within words h set =
    let found =
    reads s.stack place n words.stack (each_set g e.stack s.stack place n h.stack within set) in
    rw found.is refl

-- ---- a kept number is read unchanged

record ReadsOf (stack : ℕ → Option ℕ) (place n x : ℕ) : Type 0 where
  bytes : List ℕ
  is : set_bytes stack place n ≡ Some bytes
  number : little_endian bytes ≡ x % 256 ^ n

power_some : (n : ℕ) → 0 < 256 ^ n
power_some zero = omega arith
power_some (suc n) =
    let power = pow-succ' 256 n in let some = power_some n in omega (arith, power, some)

low_byte_first : (x n : ℕ) → x % 256 + 256 * (x / 256 % 256 ^ n) ≡ x % 256 ^ suc n
low_byte_first x n =
    let power : 256 ^ suc n ≡ 256 ^ n * 256 = pow-succ' 256 n ∙ mul_comm 256 (256 ^ n) in
    let split = mod-mul x {m = 256 ^ n} {c = 256} (power_some n) (omega arith) in
    rw power (omega (arith, split))

next_byte : (x j : ℕ) → x / 256 / 256 ^ j ≡ x / 256 ^ suc j
next_byte x j = div-div-eq-div-mul x 256 (256 ^ j) ∙ ap (λ m. x / m) (sym (pow-succ' 256 j))

later : (stack : ℕ → Option ℕ) (place x j : ℕ)
    → stack (place + suc j) ≡ Some (x / 256 ^ suc j % 256)
    → stack (place + 1 + j) ≡ Some (x / 256 / 256 ^ j % 256)
later stack place x j h =
    let at_next : place + suc j ≡ place + 1 + j = omega arith in
    subst (λ (k : ℕ). stack k ≡ Some (x / 256 / 256 ^ j % 256)) at_next
    (h ∙ ap (λ m. Some (m % 256)) (sym (next_byte x j)))

kept_reads : (stack : ℕ → Option ℕ) (place n x : ℕ)
    → ((j : ℕ) → j < n → stack (place + j) ≡ Some (x / 256 ^ j % 256)) → ReadsOf stack place n x
kept_reads stack place zero x h = record { bytes = []; is = refl; number = omega arith }
kept_reads stack place (suc n) x h =
    let whole : x / 256 ^ 0 % 256 ≡ x % 256 = omega arith in
    let start : place + 0 ≡ place = omega arith in
    let here : stack place ≡ Some (x % 256) =
    subst (λ (k : ℕ). stack k ≡ Some (x % 256)) start (h 0 (omega arith) ∙ ap Some whole) in
    let rest = kept_reads stack (place + 1) n (x / 256)
    (λ j lt. later stack place x j (h (suc j) (omega (arith, lt)))) in
    record {
      bytes = (x % 256) ∷ rest.bytes;
      is = rw (here, rest.is) refl;
      number = rw rest.number (low_byte_first x n);
    }

-- ---- the number that is loaded

pub loaded_includes : (g : Returns) (kind : LoadKind) (n : ℕ) → n < 256 ^ load_count kind
    → Includes g (loaded_value kind) (filled kind n)
loaded_includes g load.Byte n h = up_to_holds (2 ^ 8 - 1) n (omega arith) (omega arith)
loaded_includes g load.Half n h = up_to_holds (2 ^ 16 - 1) n (omega arith) (omega arith)
loaded_includes g load.Word n h = up_to_holds (2 ^ 32 - 1) n (omega arith) (omega arith)
loaded_includes g load.Double n h = up_to_holds (2 ^ 64 - 1) n (omega arith) (omega arith)
loaded_includes g load.SignedByte n h =
    full_number_holds Bits64 (filled load.SignedByte n) (grind (arith, ints))
loaded_includes g load.SignedHalf n h =
    full_number_holds Bits64 (filled load.SignedHalf n) (grind (arith, ints))
loaded_includes g load.SignedWord n h =
    full_number_holds Bits64 (filled load.SignedWord n) (grind (arith, ints))

read_from : (s : State) (place n : ℕ) (bytes : List ℕ)
    → place + n ≤ stack_size → set_bytes s.stack place n ≡ Some bytes
    → read_at s (stack_start + place) n ≡ Some (little_endian bytes)
read_from s place n bytes within is =
    let outside : is_in_context (stack_start + place) n ≡ false = grind arith in
    let inside : is_in_stack (stack_start + place) n ≡ true = grind (arith, within) in
    let behind : stack_start + place - stack_start ≡ place = omega arith in
    rw (outside, inside, behind, is) refl

any_found : (g : Returns) (e : AbsState) (s : State) (place : ℕ) (kind : LoadKind)
    → place + load_count kind ≤ stack_size → HasWords s → Covers g e s
    → has_unset e.stack (pos place) (load_count kind) ≡ false
    → Finds g (loaded_value kind) kind (read_at s (stack_start + place) (load_count kind))
unfolding AreBytes
any_found g e s place kind within words h test =
    let r = reads s.stack place (load_count kind) words.stack
    (each_set g e.stack s.stack place (load_count kind) h.stack within test) in
    record {
      number = little_endian r.bytes;
      is = read_from s place (load_count kind) r.bytes within r.is;
      included = loaded_includes g kind (little_endian r.bytes) r.small;
    }

kept_found : (g : Returns) (v : Abs) (s : State) (place : ℕ)
    → place + 8 ≤ stack_size → place % 8 ≡ 0 → KeepsNumber g v (bytes_of s.stack (place / 8))
    → Finds g v load.Double (read_at s (stack_start + place) 8)
kept_found g v s place within aligned k =
    let start : 8 * (place / 8) ≡ place = omega (arith, aligned) in
    let r = kept_reads s.stack place 8 k.number
    (λ j lt. subst (λ (n : ℕ). s.stack (n + j) ≡ Some (k.number / 256 ^ j % 256)) start
    (k.bytes_are j lt)) in
    let whole : k.number % 256 ^ 8 ≡ k.number = omega (arith, k.word) in
    record {
      number = k.number;
      is = read_from s place 8 r.bytes within r.is ∙ ap Some (r.number ∙ whole);
      included = k.included;
    }

-- an aligned slot
slot_found : (g : Returns) (slot : AbsSlot) (s : State) (place : ℕ)
    → place + 8 ≤ stack_size → place % 8 ≡ 0 → CoversSlot g slot (bytes_of s.stack (place / 8))
    → Finds g (loaded_value load.Double) load.Double (read_at s (stack_start + place) 8)
    → Finds g (kept_or slot (loaded_value load.Double)) load.Double
    (read_at s (stack_start + place) 8)
slot_found g (Kept v) s place within aligned h other = kept_found g v s place within aligned h
slot_found g (Bytes mask) s place within aligned h other = other

double_found : (g : Returns) (e : AbsState) (s : State) (place : ℕ)
    → place + 8 ≤ stack_size → Covers g e s
    → Finds g (loaded_value load.Double) load.Double (read_at s (stack_start + place) 8)
    → Finds g (loaded_from e.stack place load.Double) load.Double
    (read_at s (stack_start + place) 8)
double_found g e s place within h other = elim (cases_eq (place % 8) 0) [
  | inl aligned ↦
      let test : (place % 8 == 0) ≡ true = grind (arith, aligned) in
      rw test (slot_found g (slot_at e.stack (place / 8)) s place within aligned
      (h.stack (place / 8)) other)
  | inr apart ↦ let test : (place % 8 == 0) ≡ false = grind (arith, apart) in rw test other
]

pub covers_load : (g : Returns) (e : AbsState) (s : State) (place : ℕ) (kind : LoadKind)
    → place + load_count kind ≤ stack_size → HasWords s → Covers g e s
    → has_unset e.stack (pos place) (load_count kind) ≡ false
    → Finds g (loaded_from e.stack place kind) kind
    (read_at s (stack_start + place) (load_count kind))
covers_load g e s place load.Double within words h test =
    double_found g e s place within h (any_found g e s place load.Double within words h test)
covers_load g e s place kind within words h test = any_found g e s place kind within words h test
