-- The numbers that fit each field, and the value that the field then has.
use Rattle.std.specs.Prelude.{ℕ, ◌-◌, ◌%◌, ◌^◌, ℤ, pos, neg_ℤ}
use Rattle.std.specs.Prelude.{Option, Some, None, nat_le, nat_lt, if◌then◌else◌}
use Rattle.std.specs.Int.{w32, cast_signed}
use Rattle.bpf_insn.specs.Program.{◌>>=◌}
use Rattle.bpf_text.specs.declared.token.Sign.{Sign}
use Rattle.bpf_text.specs.declared.token.Sign.TheVariants.{Absent, Minus, Plus}
use Rattle.bpf_text.specs.declared.token.Figure.{Figure}

-- -2147483648 to 4294967295, modulo 2 to the 32
abbrev pub imm_from : Sign → ℕ → Option ℤ
imm_from Absent n = if nat_lt n (2 ^ 32) then Some (cast_signed w32 n) else None
imm_from Minus n = if nat_le n (2 ^ 31) then Some (neg_ℤ (pos n)) else None
imm_from Plus n = None

-- -2^63 to 2^64 - 1, modulo 2 to the 64
abbrev pub wide_from : Sign → ℕ → Option ℕ
wide_from Absent n = Some n
wide_from Minus n = if nat_le n (2 ^ 63) then Some ((2 ^ 64 - n) % 2 ^ 64) else None
wide_from Plus n = None

-- with its sign, in the range of a signed field of k + 1 bits
abbrev pub signed_from : ℕ → Sign → ℕ → Option ℤ
signed_from k Absent n = None
signed_from k Minus n = if nat_le n (2 ^ k) then Some (neg_ℤ (pos n)) else None
signed_from k Plus n = if nat_lt n (2 ^ k) then Some (pos n) else None

abbrev pub imm_of : Figure → Option ℤ
imm_of f = f.magnitude >>= imm_from f.sign

abbrev pub wide_of : Figure → Option ℕ
wide_of f = f.magnitude >>= wide_from f.sign

abbrev pub short_of : Figure → Option ℤ
short_of f = f.magnitude >>= signed_from 15 f.sign

abbrev pub long_of : Figure → Option ℤ
long_of f = f.magnitude >>= signed_from 31 f.sign
