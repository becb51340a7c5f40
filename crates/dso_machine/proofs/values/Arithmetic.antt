-- What the processor's arithmetic leaves of a number is what 64 bits have of it.
use Rattle.std.proofs.Common.{◌≡◌, ap, sym, ◌∙◌, arith, refl, ℕ, zero, suc, ◌%◌, ◌<◌, ◌≤◌, ◌/◌, ◌^◌}
use Rattle.std.proofs.Math.IntN.{ℤ, pos, negsuc, neg_ℤ, ◌-ℤ◌}
use Rattle.std.proofs.Math.Nat.{div-le_self, mod-eq_of_lt}
use Rattle.std.proofs.lemmas.Int.{ints, wrapping_neg_is, int_wrap_fits, fits_signed_from_abs, rem_below}
use Rattle.std.specs.Int.{cast_signed, cast_unsigned, int_wrap, int_wrapping_neg, int_wrapping_div}
use Rattle.std.specs.Int.RustNames.{FitsSigned, int_div, int_rem, unsigned_abs}
use Rattle.std.specs.Int.Signed.{nat_abs-le}
use mir.Syntax.{Width, w64}
use mir.Val.{bits}

-- the bits of a number of at most 64 of them read as what is left of it
cast_wraps : (w : Width) (z : ℤ) → unsigned_abs z < 2 ^ bits w → cast_signed w (cast_unsigned w z) ≡ int_wrap w z
unfolding int_wrap
cast_wraps w (pos a) h = ap (cast_signed w) (sym (mod-eq_of_lt h))
cast_wraps w (negsuc a) h =
    let small : a % 2 ^ bits w ≡ a = mod-eq_of_lt (omega (arith, h)) in
    ap (cast_signed w) (omega (arith, small))

-- the sign doesn't change a size
negated_size : (k : ℕ) → unsigned_abs (neg_ℤ (pos k)) ≡ k
negated_size zero = refl
negated_size (suc k) = refl

-- a quotient isn't larger than the dividend
quotient_size : (m n : ℤ) → unsigned_abs (int_div m n) ≤ unsigned_abs m
quotient_size (pos a) (pos b) = div-le_self a b
quotient_size (pos a) (negsuc b) = omega (arith, negated_size (a / suc b), div-le_self a (suc b))
quotient_size (negsuc a) (pos b) = omega (arith, negated_size (suc a / b), div-le_self (suc a) b)
quotient_size (negsuc a) (negsuc b) = div-le_self (suc a) (suc b)

-- a long's size is below that of 64 bits
long_size : (m : ℤ) → FitsSigned w64 m → unsigned_abs m ≤ 2 ^ 63
long_size m f = nat_abs-le m f.sfits

-- the quotient of two longs wraps
pub quotient_wraps : (m n : ℤ) → FitsSigned w64 m → int_wrapping_div w64 m n ≡ int_wrap w64 (int_div m n)
quotient_wraps m n f = cast_wraps w64 (int_div m n) (omega (arith, quotient_size m n, long_size m f))

-- a remainder is a long
pub remainder_wraps : (m n : ℤ) → FitsSigned w64 n → 0 < unsigned_abs n → int_rem m n ≡ int_wrap w64 (int_rem m n)
remainder_wraps m n f h = sym (int_wrap_fits w64 (int_rem m n) (fits_signed_from_abs w64 (int_rem m n) (omega (arith, rem_below m n h, long_size n f))))

-- a minus sign is a difference from 0
pub negation_wraps : (n : ℤ) → FitsSigned w64 n → int_wrapping_neg w64 n ≡ int_wrap w64 (pos 0 -ℤ n)
negation_wraps n f = wrapping_neg_is w64 n f ∙ ap (int_wrap w64) (omega (arith, ints))
