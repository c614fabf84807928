-- Signed numbers: the absolute value of each operation's result, and from it that the result fits its width. Assumes nothing.
use Rattle.std.proofs.Common.{int_eq, ◌≡◌, ℕ, zero, suc, ◌+◌, ◌-◌, ◌*◌, ◌/◌, ◌%◌, ◌^◌, ◌<◌, ◌≤◌, Bool, true, false, cond, ltb, ◌⊎◌, ◌↔◌, ℤ, pos, negsuc, ◌+ℤ◌, ◌-ℤ◌, ◌*ℤ◌, neg_ℤ, nat_abs, sym, refl, ap, inl, inr, le_refl, lt_of_le_of_lt, mod-lt, zero-mul, arith, SFits, ltb-false, ltb-true, eq-eqb, eqb-true}
use Rattle.std.proofs.lemmas.Bool.Decides.{Decides-int_eq}
use mathlib.Core.Bool.{false≢true}
use native.Mathlib.Nat.{zero-div, zero-mod}
use lib.IntN.{sub_ℕ, pos-ne-negsuc, neg_ℤ-neg_ℤ}
use lib.Signed.{mag, quot_z, rem_z}
use mir.Syntax.{Width}
use mir.Val.{hbits}
use Rattle.rule.specs.Pairs.{same_number}
use Rattle.rule.proofs.Tests.{one_test}

-- ---- what fits a width

mag_nat_abs : (z : ℤ) → mag z ≤ nat_abs z
mag_nat_abs (pos n) = le_refl n
mag_nat_abs (negsuc n) = omega arith

-- a number whose absolute value is below half the width's power fits
pub sfits_nat_abs : (w : Width) {z : ℤ} → nat_abs z < 2 ^ hbits w → SFits w z
sfits_nat_abs w {z} h = record { sfits = lt_of_le_of_lt (mag_nat_abs z) h }

-- ---- absolute values

pub nat_abs_neg : (z : ℤ) → nat_abs (neg_ℤ z) ≡ nat_abs z
nat_abs_neg (pos zero) = refl
nat_abs_neg (pos (suc n)) = refl
nat_abs_neg (negsuc n) = refl

nat_abs_sub : (a b : ℕ) → nat_abs (sub_ℕ a b) ≡ (a - b) + (b - a)
nat_abs_sub a b = go (ltb a b) refl
  where
    go : (t : Bool) → ltb a b ≡ t → nat_abs (cond t (negsuc (b - suc a)) (pos (a - b))) ≡ (a - b) + (b - a)
    go true e = let h : a < b = ltb-true a b e in omega arith
    go false e = let h : b ≤ a = ltb-false a b e in omega arith

pub nat_abs_minus : (a b : ℕ) → nat_abs (pos a -ℤ pos b) ≡ (a - b) + (b - a)
nat_abs_minus a zero = omega arith
nat_abs_minus a (suc b) = nat_abs_sub a (suc b)

pub nat_abs_add : (a b : ℤ) → nat_abs (a +ℤ b) ≤ nat_abs a + nat_abs b
nat_abs_add (pos a) (pos b) = le_refl (a + b)
nat_abs_add (pos a) (negsuc b) = omega (arith, nat_abs_sub a (suc b))
nat_abs_add (negsuc a) (pos b) = omega (arith, nat_abs_sub b (suc a))
nat_abs_add (negsuc a) (negsuc b) = omega arith

pub nat_abs_mul : (a b : ℤ) → nat_abs (a *ℤ b) ≡ nat_abs a * nat_abs b
nat_abs_mul (pos a) (pos b) = refl
nat_abs_mul (pos a) (negsuc b) = nat_abs_neg (pos (a * suc b))
nat_abs_mul (negsuc a) (pos b) = nat_abs_neg (pos (suc a * b))
nat_abs_mul (negsuc a) (negsuc b) = refl

pub nat_abs_quot : (a b : ℤ) → nat_abs (quot_z a b) ≡ nat_abs a / nat_abs b
nat_abs_quot (pos a) (pos b) = refl
nat_abs_quot (pos a) (negsuc b) = nat_abs_neg (pos (a / suc b))
nat_abs_quot (negsuc a) (pos b) = nat_abs_neg (pos (suc a / b))
nat_abs_quot (negsuc a) (negsuc b) = refl

pub nat_abs_rem : (a b : ℤ) → nat_abs (rem_z a b) ≡ nat_abs a % nat_abs b
nat_abs_rem (pos a) b = refl
nat_abs_rem (negsuc a) b = nat_abs_neg (pos (suc a % nat_abs b))

pub neg_mul : (k : ℤ) (d : ℕ) → neg_ℤ k *ℤ pos d ≡ neg_ℤ (k *ℤ pos d)
neg_mul (pos zero) d = rw (zero-mul d) refl
neg_mul (pos (suc n)) d = refl
neg_mul (negsuc n) d = sym (neg_ℤ-neg_ℤ (pos (suc n * d)))

-- division cuts towards zero: the sign of what is divided passes to the quotient and to what is left
pub quot_neg : (a b : ℕ) → quot_z (neg_ℤ (pos a)) (pos b) ≡ neg_ℤ (pos (a / b))
quot_neg zero b = rw (zero-div b)
quot_neg (suc a) b = refl

pub rem_neg : (a b : ℕ) → rem_z (neg_ℤ (pos a)) (pos b) ≡ neg_ℤ (pos (a % b))
rem_neg zero b = rw (zero-mod b)
rem_neg (suc a) b = refl

-- what a division by 2 leaves
pub parity : (n : ℕ) → (n % 2 ≡ 0) ⊎ (n % 2 ≡ 1)
parity n = go (n % 2) (mod-lt n (omega arith))
  where
    go : (m : ℕ) → m < 2 → (m ≡ 0) ⊎ (m ≡ 1)
    go zero h = inl refl
    go (suc zero) h = inr refl
    go (suc (suc m)) h = absurd (omega arith)

-- ---- equal numbers

pub same_number_is : (a b : ℤ) → (same_number a b ≡ true) ↔ (a ≡ b)
unfolding same_number
same_number_is (pos a) (pos b) = (λ e. ap pos (eqb-true a b e), λ e. eq-eqb a b (ap nat_abs e))
same_number_is (pos a) (negsuc b) = (λ e. absurd (false≢true e), λ e. absurd (pos-ne-negsuc a b e))
same_number_is (negsuc a) (pos b) = (λ e. absurd (false≢true e), λ e. absurd (pos-ne-negsuc b a (sym e)))
same_number_is (negsuc a) (negsuc b) = (λ e. ap negsuc (eqb-true a b e), λ e. eq-eqb a b (ap mag e))

-- the library's equality, by which a derived `==` compares numbers, is the same test
pub int_eq_same : (a b : ℤ) → int_eq a b ≡ same_number a b
int_eq_same a b = one_test (int_eq a b) (same_number a b) (Decides-int_eq a b) (same_number_is a b)
