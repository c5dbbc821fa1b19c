-- An operation on two numbers of a width gives a number of that width.
use Rattle.std.proofs.Common.{ℕ, zero, suc, ◌+◌, ◌-◌, ◌*◌, ◌/◌, ◌%◌, ◌^◌, ◌<◌}
use Rattle.std.proofs.Common.{ℤ, pos, negsuc, neg_ℤ, FitsSigned}
use Rattle.std.proofs.Common.{Bool, true, false, ◌==◌, unsigned_abs, arith, sym, subst, div-le_self}
use Rattle.std.specs.Prelude.{if◌then◌else◌, int_div, int_rem}
use Rattle.std.specs.Int.{Width, w8, w16, w32, w64, w128, cast_signed, cast_unsigned, int_shr}
use mir.Val.{bits, hbits}
use Rattle.std.proofs.Math.Nat.{mod-le}
use Rattle.std.proofs.lemmas.Nat.{or_lt, xor_lt, and_le_l, shr_le, mod_below, pow_pos}
use Rattle.std.proofs.lemmas.Int.{ints, of_z-to_z}
use Rattle.bpf_insn.specs.declared.operand.AluOp.{AluOp}
use Rattle.bpf_insn.specs.declared.operand.AluOp.TheVariants.{Add, Sub, Mul, Div, Sdiv, Or, And}
use Rattle.bpf_insn.specs.declared.operand.AluOp.TheVariants.{Lsh, Rsh, Mod, Smod, Xor, Arsh}
use Rattle.bpf_insn.specs.Arithmetic.{arithmetic, signed_quotient, signed_remainder}

-- ---- signed numbers

signed_fits : (w : Width) (a : ℕ) → FitsSigned w (cast_signed w a)
signed_fits w a = omega (arith, ints)

half_lt : (w : Width) → 2 ^ hbits w < 2 ^ bits w
half_lt w8 = omega arith
half_lt w16 = omega arith
half_lt w32 = omega arith
half_lt w64 = omega arith
half_lt w128 = omega arith

-- a sign-extending shift
shifted_lt : (w : Width) (z : ℤ) (k : ℕ) → cast_unsigned w z < 2 ^ bits w
    → cast_unsigned w (int_shr z k) < 2 ^ bits w
shifted_lt w (pos n) k h = let part = shr_le n k in omega (arith, part, h)
shifted_lt w (negsuc n) k h = let some = pow_pos (bits w) in omega (arith, some)

negated_lt : (w : Width) (n : ℕ) → cast_unsigned w (neg_ℤ (pos n)) < 2 ^ bits w
negated_lt w zero = pow_pos (bits w)
negated_lt w (suc n) = let some = pow_pos (bits w) in omega (arith, some)

-- the quotient of two negative numbers is at most the dividend's absolute value
quotient_lt : (w : Width) (x y : ℤ) → FitsSigned w x → cast_unsigned w (int_div x y) < 2 ^ bits w
quotient_lt w (pos n) (pos m) h =
    let part = div-le_self n m in let half = half_lt w in omega (arith, part, half, h.sfits)
quotient_lt w (pos n) (negsuc m) h = negated_lt w (n / suc m)
quotient_lt w (negsuc n) (pos m) h = negated_lt w (suc n / m)
quotient_lt w (negsuc n) (negsuc m) h =
    let part = div-le_self (suc n) (suc m) in
    let half = half_lt w in omega (arith, part, half, h.sfits)

remainder_lt : (w : Width) (x y : ℤ) → FitsSigned w x → cast_unsigned w (int_rem x y) < 2 ^ bits w
remainder_lt w (pos n) y h =
    let part = mod-le n (unsigned_abs y) in
    let half = half_lt w in omega (arith, part, half, h.sfits)
remainder_lt w (negsuc n) y h = negated_lt w (suc n % unsigned_abs y)

-- ---- the operations

-- if the divisor is 0, and if it isn't
either_lt : (none : Bool) (n m k : ℕ) → n < k → m < k → (if none then n else m) < k
either_lt true n m k h g = h
either_lt false n m k h g = g

pub fits_width : (w : Width) (op : AluOp) (a b : ℕ) → a < 2 ^ bits w → b < 2 ^ bits w
    → arithmetic w op a b < 2 ^ bits w
fits_width w Add a b p q = mod_below (a + b) (2 ^ bits w) (pow_pos (bits w))
fits_width w Sub a b p q = mod_below (a + (2 ^ bits w - b)) (2 ^ bits w) (pow_pos (bits w))
fits_width w Mul a b p q = mod_below (a * b) (2 ^ bits w) (pow_pos (bits w))
fits_width w Div a b p q =
    let part = div-le_self a b in
    either_lt (b == 0) 0 (a / b) (2 ^ bits w) (pow_pos (bits w)) (omega (arith, part, p))
fits_width w Sdiv a b p q =
    either_lt (b == 0) 0 (signed_quotient w a b) (2 ^ bits w) (pow_pos (bits w))
    (quotient_lt w (cast_signed w a) (cast_signed w b) (signed_fits w a))
fits_width w Or a b p q = or_lt (bits w) a b p q
fits_width w And a b p q = let part = and_le_l a b in omega (arith, part, p)
fits_width w Lsh a b p q = mod_below (a * 2 ^ (b % bits w)) (2 ^ bits w) (pow_pos (bits w))
fits_width w Rsh a b p q = let part = shr_le a (b % bits w) in omega (arith, part, p)
fits_width w Mod a b p q =
    let part = mod-le a b in
    either_lt (b == 0) a (a % b) (2 ^ bits w) p (omega (arith, part, p))
fits_width w Smod a b p q =
    either_lt (b == 0) a (signed_remainder w a b) (2 ^ bits w) p
    (remainder_lt w (cast_signed w a) (cast_signed w b) (signed_fits w a))
fits_width w Xor a b p q = xor_lt (bits w) a b p q
fits_width w Arsh a b p q = shifted_lt w (cast_signed w a) (b % bits w)
    (subst (λ (n : ℕ). n < 2 ^ bits w) (sym (of_z-to_z w a p)) p)
