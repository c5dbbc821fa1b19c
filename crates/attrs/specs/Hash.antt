-- FNV-1a with 64 bits.
use Rattle.std.specs.Prelude.{ℕ, ◌*◌, ◌%◌, ◌^◌, List, fold, bit_xor}

abbrev pub fnv_basis : ℕ
fnv_basis = 14695981039346656037

abbrev pub fnv_prime : ℕ
fnv_prime = 1099511628211

-- the byte is XORed in, and the product with the prime is cut to 64 bits
abbrev pub with_byte : ℕ → ℕ → ℕ
with_byte hash byte = bit_xor hash byte * fnv_prime % 2 ^ 64

abbrev pub fnv1a : List ℕ → ℕ
fnv1a bytes = fold with_byte fnv_basis bytes
