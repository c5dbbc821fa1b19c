-- A read of n bytes from the context or the stack gives a number of n bytes.
use Rattle.std.proofs.Common.{◌≡◌, ℕ, zero, suc, ◌+◌, ◌-◌, ◌*◌, ◌^◌, ◌<◌}
use Rattle.std.proofs.Common.{List, [], ◌∷◌, ◌++◌, take, drop, replicate, All}
use Rattle.std.proofs.Common.{Option, Some, None, Bool, true, false, refl, arith}
use Rattle.std.specs.Prelude.{IfSome, slice_index, if◌then◌else◌}
use Rattle.std.specs.Int.{bytes_low_first, byte_at}
use Rattle.std.proofs.Math.Nat.{pow-succ'}
use Rattle.std.proofs.lemmas.List.Elements.{All-nil, All-cons, All-head, All-tail}
use Rattle.std.proofs.lemmas.List.Elements.{All-append, All-drop, All-replicate}
use Rattle.attrs.specs.Context.{Context, context_bytes}
use Rattle.bpf_insn.specs.Words.{little_endian}
use Rattle.bpf_insn.specs.Program.{◌>>=◌}
use Rattle.bpf_semantics.specs.Memory.{context_start, stack_start}
use Rattle.bpf_semantics.specs.Memory.{is_in_context, is_in_stack, set_bytes}
use Rattle.bpf_semantics.specs.State.{State, HasWords, context_part, read_at}

abbrev pub IsByte : ℕ → Type 0
IsByte b = b < 256

-- ---- the bytes of the context

byte_lt : (i n : ℕ) → IsByte (byte_at i n)
byte_lt zero n = omega arith
byte_lt (suc i) n = omega arith

low_first : (i k n : ℕ) → All IsByte (bytes_low_first i k n)
low_first i zero n = All-nil IsByte
low_first i (suc k) n = All-cons IsByte (byte_at i n) (bytes_low_first (suc i) k n) (byte_lt i n)
    (low_first (suc i) k n)

record AreBytes (bytes : List ℕ) : Type 0 where
  each : All IsByte bytes

-- a field of n bytes, and what follows it
field : (n x : ℕ) {rest : List ℕ} → AreBytes rest → AreBytes (bytes_low_first 0 n x ++ rest)
field n x {rest} h =
    record { each = All-append IsByte (bytes_low_first 0 n x) rest (low_first 0 n x) h.each }

zero_byte : {rest : List ℕ} → AreBytes rest → AreBytes (0 ∷ rest)
zero_byte {rest} h = record { each = All-cons IsByte 0 rest (omega arith) h.each }

zeros : (n : ℕ) → AreBytes (replicate n 0)
zeros n = record { each = All-replicate IsByte n 0 (omega arith) }

context_are_bytes : (c : Context) → AreBytes (context_bytes c)
unfolding context_bytes
context_are_bytes c =
    field 4 (slice_index c.version 0) (field 4 (slice_index c.version 1)
    (field 4 (slice_index c.version 2) (field 4 (slice_index c.version 3)
    (field 2 c.bucket (field 1 c.flags
    (zero_byte (field 4 c.install_day (field 4 c.today (field 4 c.seconds (zeros 32))))))))))

-- ---- numbers of n bytes

one_more : (b rest n : ℕ) → b < 256 → rest < 256 ^ n → b + 256 * rest < 256 ^ suc n
one_more b rest n p q =
    let power : 256 ^ suc n ≡ 256 * 256 ^ n = pow-succ' 256 n in rw power (omega (arith, p, q))

taken_lt : (n : ℕ) (bytes : List ℕ) → All IsByte bytes → little_endian (take n bytes) < 256 ^ n
taken_lt zero bytes h = omega arith
taken_lt (suc n) [] h = power_some (suc n)
  where
    power_some : (k : ℕ) → 0 < 256 ^ k
    power_some zero = omega arith
    power_some (suc k) =
        let power = pow-succ' 256 k in let some = power_some k in omega (arith, power, some)
taken_lt (suc n) (b ∷ bytes) h = one_more b (little_endian (take n bytes)) n
    (All-head IsByte b bytes h) (taken_lt n bytes (All-tail IsByte b bytes h))

abbrev IsPart : ℕ → List ℕ → Type 0
IsPart n bytes = little_endian bytes < 256 ^ n

set_lt : (stack : ℕ → Option ℕ) (k n : ℕ) → ((j b : ℕ) → stack j ≡ Some b → IsByte b)
    → IfSome (set_bytes stack k n) (IsPart n)
set_lt stack k zero h = omega arith
set_lt stack k (suc n) h =
    on_first (stack k) (h k) (set_bytes stack (k + 1) n) (set_lt stack (k + 1) n h)
  where
    on_first : (o : Option ℕ) → ((b : ℕ) → o ≡ Some b → IsByte b) → (q : Option (List ℕ))
        → IfSome q (IsPart n) → IfSome (o >>= λ b. q >>= λ rest. Some (b ∷ rest)) (IsPart (suc n))
    on_first None small q rest = tt
    on_first (Some b) small None rest = tt
    on_first (Some b) small (Some bytes) rest =
        one_more b (little_endian bytes) n (small b refl) rest

abbrev pub IsBelow : ℕ → ℕ → Type 0
IsBelow n v = v < 256 ^ n

pub read_lt : (s : State) (address n : ℕ) → HasWords s → IfSome (read_at s address n) (IsBelow n)
read_lt s address n h = by_region (is_in_context address n) (is_in_stack address n)
  where
    on_bytes : (o : Option (List ℕ)) → IfSome o (IsPart n)
        → IfSome (o >>= λ bytes. Some (little_endian bytes)) (IsBelow n)
    on_bytes None part = tt
    on_bytes (Some bytes) part = part

    by_region : (in_context in_stack : Bool) → IfSome (if in_context
        then Some (little_endian (context_part s (address - context_start) n))
        else if in_stack then (set_bytes s.stack (address - stack_start) n >>= λ bytes.
        Some (little_endian bytes)) else None) (IsBelow n)
    by_region true in_stack =
        taken_lt n (drop (address - context_start) (context_bytes s.attributes.context))
        (All-drop IsByte (address - context_start) (context_bytes s.attributes.context)
        (context_are_bytes s.attributes.context).each)
    by_region false true = on_bytes (set_bytes s.stack (address - stack_start) n)
        (set_lt s.stack (address - stack_start) n h.stack)
    by_region false false = tt
