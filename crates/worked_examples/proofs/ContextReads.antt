-- What a run reads from the context, for all attributes.
use Rattle.std.proofs.Common.{◌≡◌, ℕ, ◌+◌, ◌*◌, ◌/◌, ◌%◌, ◌^◌, ◌<◌}
use Rattle.std.proofs.Common.{Some, refl, ap, arith, slice_index}
use Rattle.attrs.specs.Attributes.{Attributes}
use Rattle.attrs.specs.Context.{context_bytes}
use Rattle.bpf_semantics.specs.State.{opening, read_at}

two_bytes : (n : ℕ) → n < 2 ^ 16 → n % 256 + 256 * (n / 256 ^ 1 % 256 + 256 * 0) ≡ n
two_bytes n h = omega (arith, h)

pub bucket_read : (a : Attributes) → a.context.bucket < 2 ^ 16
    → read_at (opening a) 0x10000010 2 ≡ Some a.context.bucket
unfolding context_bytes
bucket_read a h = ap Some (two_bytes a.context.bucket h)

-- the number of its low four bytes
abbrev four_bytes : ℕ → ℕ
four_bytes n = n % 256
    + 256 * (n / 256 ^ 1 % 256 + 256 * (n / 256 ^ 2 % 256 + 256 * (n / 256 ^ 3 % 256 + 256 * 0)))

pub version_read : (a : Attributes) {n : ℕ} → slice_index a.context.version 0 ≡ n
    → read_at (opening a) 0x10000000 4 ≡ Some (four_bytes n)
unfolding context_bytes
version_read a e = ap (λ n. Some (four_bytes n)) e

pub last_byte_read : (a : Attributes) → read_at (opening a) 0x1000003F 1 ≡ Some 0
unfolding context_bytes
last_byte_read a = refl

pub last_double_read : (a : Attributes) → read_at (opening a) 0x10000038 8 ≡ Some 0
unfolding context_bytes
last_double_read a = refl
