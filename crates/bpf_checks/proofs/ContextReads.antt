-- A load within the context reads a number of its width.
use Rattle.std.proofs.Common.{◌≡◌, ℕ, zero, suc, ◌+◌, ◌-◌, ◌*◌, ◌^◌, ◌<◌, ◌≤◌, List, [], ◌∷◌, ◌++◌}
use Rattle.std.proofs.Common.{length, take, drop, replicate, Some, true, refl, arith}
use Rattle.std.specs.Prelude.{slice_index, nat_le}
use Rattle.std.specs.Int.{w16, w32, to_le_bytes, bytes_low_first, byte_at}
use Rattle.std.proofs.Math.Nat.{pow-succ'}
use Rattle.std.proofs.lemmas.List.{length-take, length-drop}
use Rattle.attrs.specs.Context.{Context, context_bytes}
use Rattle.bpf_insn.specs.Words.{little_endian}
use Rattle.bpf_semantics.specs.Memory.{context_start, context_size}
use Rattle.bpf_semantics.specs.State.{State, read_at, context_part}

-- ---- bytes

data AreBytes : List ℕ → Type 0 where
  end : AreBytes []
  byte : {b : ℕ} {bs : List ℕ} → b < 256 → AreBytes bs → AreBytes (b ∷ bs)

byte_at-lt : (i n : ℕ) → byte_at i n < 256
byte_at-lt zero n = omega arith
byte_at-lt (suc i) n = omega arith

low_first : (i k n : ℕ) → AreBytes (bytes_low_first i k n)
low_first i zero n = end
low_first i (suc k) n = byte (byte_at-lt i n) (low_first (suc i) k n)

zeros : (k : ℕ) → AreBytes (replicate k 0)
zeros zero = end
zeros (suc k) = byte (omega arith) (zeros k)

both_bytes : (xs ys : List ℕ) → AreBytes xs → AreBytes ys → AreBytes (xs ++ ys)
both_bytes [] ys end k = k
both_bytes (x ∷ xs) ys (byte lt h) k = byte lt (both_bytes xs ys h k)

take_bytes : (n : ℕ) (bs : List ℕ) → AreBytes bs → AreBytes (take n bs)
take_bytes zero bs h = end
take_bytes (suc n) [] h = end
take_bytes (suc n) (b ∷ bs) (byte lt h) = byte lt (take_bytes n bs h)

drop_bytes : (n : ℕ) (bs : List ℕ) → AreBytes bs → AreBytes (drop n bs)
drop_bytes zero bs h = h
drop_bytes (suc n) [] h = h
drop_bytes (suc n) (b ∷ bs) (byte lt h) = drop_bytes n bs h

little_endian-lt : (bs : List ℕ) → AreBytes bs → little_endian bs < 256 ^ length bs
little_endian-lt [] h = omega arith
little_endian-lt (b ∷ bs) (byte lt h) =
    let rest : little_endian bs < 256 ^ length bs = little_endian-lt bs h in
    let power : 256 ^ suc (length bs) ≡ 256 * 256 ^ length bs = pow-succ' 256 (length bs) in
    rw power (omega arith)

context_length : (c : Context) → length (context_bytes c) ≡ context_size
unfolding context_bytes
context_length c = refl

bytes_2 : (n : ℕ) {rest : List ℕ} → AreBytes rest → AreBytes (to_le_bytes w16 n ++ rest)
bytes_2 n {rest = rest} h = both_bytes (to_le_bytes w16 n) rest (low_first 0 2 n) h

bytes_4 : (n : ℕ) {rest : List ℕ} → AreBytes rest → AreBytes (to_le_bytes w32 n ++ rest)
bytes_4 n {rest = rest} h = both_bytes (to_le_bytes w32 n) rest (low_first 0 4 n) h

context_are_bytes : (c : Context) → AreBytes (context_bytes c)
unfolding context_bytes
context_are_bytes c =
    bytes_4 (slice_index c.version 0) (bytes_4 (slice_index c.version 1)
    (bytes_4 (slice_index c.version 2) (bytes_4 (slice_index c.version 3)
    (bytes_2 c.bucket (byte (omega arith) (byte {b = 0} (omega arith)
    (bytes_4 c.install_day (bytes_4 c.today (bytes_4 c.seconds (zeros 32))))))))))

-- ---- reading the context

pub record Reads (s : State) (address n : ℕ) : Type 0 where
  pub number : ℕ
  pub is : read_at s address n ≡ Some number
  pub small : number < 256 ^ n

pub reads : (s : State) (address n : ℕ)
    → context_start ≤ address → address + n ≤ context_start + context_size → Reads s address n
reads s address n low high =
    let a : nat_le context_start address ≡ true = grind arith in
    let b : nat_le (address + n) (context_start + context_size) ≡ true = grind arith in
    let len : length (context_part s (address - context_start) n) ≡ n =
    omega (
      arith,
      length-take n (drop (address - context_start) (context_bytes s.attributes.context)),
      length-drop (address - context_start) (context_bytes s.attributes.context),
      context_length s.attributes.context,
    ) in
    let small = little_endian-lt (context_part s (address - context_start) n)
    (take_bytes n (drop (address - context_start) (context_bytes s.attributes.context))
    (drop_bytes (address - context_start) (context_bytes s.attributes.context)
    (context_are_bytes s.attributes.context))) in
    record {
      number = little_endian (context_part s (address - context_start) n);
      is = rw (a, b) refl;
      small = rw len at small;
    }
