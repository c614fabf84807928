-- Comparisons by the top bit of numbers that wrap at 64 bits, and the absolute value of the number that bits are. Assumes nothing.
use Rattle.std.proofs.Common.{◌≡◌, ℕ, suc, ◌+◌, ◌-◌, ◌%◌, ◌^◌, ◌<◌, ◌≤◌, true, ◌&&◌, leb, ◌↔◌, nat_abs, ap, ◌∙◌, arith, w64, to_z, ltb-true, lt-ltb, le-leb, leb-true}
use native.Mathlib.Decide.{dec_lt}
use lib.Bits.{bit_or, or_lt, or_add_and, and_le_l, and_le_r}
use mir.Syntax.{Width}
use mir.Val.{bits, hbits}
use mir.Facts.{to_z_pos, to_z-neg}
use Rattle.rule.specs.Bounds.{top_clear}
use Rattle.rule.proofs.Tests.{one_test, both}

-- ---- the absolute value of the number that bits are

pub abs_low : (w : Width) {n : ℕ} → n < 2 ^ hbits w → nat_abs (to_z w n) ≡ n
abs_low w h = ap nat_abs (to_z_pos w h)

pub abs_high : (w : Width) {n : ℕ} → 2 ^ hbits w ≤ n → n < 2 ^ bits w → 2 ^ bits w ≤ 2 ^ hbits w + 2 ^ hbits w
    → nat_abs (to_z w n) ≡ 2 ^ bits w - n
abs_high w {n} l h twice =
    let k = 2 ^ bits w - suc n in
    let e : n ≡ 2 ^ bits w - suc k = omega arith in
    ap (λ m. nat_abs (to_z w m)) e ∙ ap nat_abs (to_z-neg w k (omega arith)) ∙ omega arith

-- ---- the top bit

clear_is : (r : ℕ) → (top_clear r ≡ true) ↔ (r < 2 ^ 63)
clear_is r = (ltb-true r (2 ^ 63), lt-ltb r (2 ^ 63))

-- a comparison and its top bit
clear_le : (a b r : ℕ) → (a ≤ b → r < 2 ^ 63) → (r < 2 ^ 63 → a ≤ b) → top_clear r ≡ leb a b
clear_le a b r f g = one_test _ _ (clear_is r) (λ h. f (leb-true a b h), λ h. le-leb a b (g h))

-- that of an `or` is clear where both are
pub top_or : (a b : ℕ) → top_clear (bit_or a b) ≡ top_clear a && top_clear b
top_or a b = one_test _ _ (clear_is (bit_or a b)) (λ h. whole (each.0 h), λ h. each.1 (parts h))
  where
    each : (top_clear a && top_clear b ≡ true) ↔ ((a < 2 ^ 63) × (b < 2 ^ 63))
    each = both (top_clear a) (top_clear b) (clear_is a) (clear_is b)

    whole : (a < 2 ^ 63) × (b < 2 ^ 63) → bit_or a b < 2 ^ 63
    whole h = or_lt 63 a b h.0 h.1

    parts : bit_or a b < 2 ^ 63 → (a < 2 ^ 63) × (b < 2 ^ 63)
    parts h = (omega (arith, or_add_and a b, and_le_r a b), omega (arith, or_add_and a b, and_le_l a b))

-- that of a difference is clear where it doesn't wrap
pub sub_clear : (a b r : ℕ) → a ≤ 2 ^ 63 → b < 2 ^ 63 → r < 2 ^ 64 → (r + a) % 2 ^ 64 ≡ b → top_clear r ≡ leb a b
sub_clear a b r f g h e = clear_le a b r (λ l. omega arith) (λ l. omega arith)

-- those of x + b and b - x are clear where the number that the bits x are lies in -b to b
pub within_clear : (x b p q : ℕ) → x < 2 ^ 64 → b < 2 ^ 62 → p ≡ (x + b) % 2 ^ 64 → q < 2 ^ 64 → (q + x) % 2 ^ 64 ≡ b
    → top_clear (bit_or p q) ≡ leb (nat_abs (to_z w64 x)) b
within_clear x b p q f g d h e = top_or p q ∙ one_test _ _ each (leb-true _ b, le-leb _ b)
  where
    clear : (nat_abs (to_z w64 x) ≤ b → (p < 2 ^ 63) × (q < 2 ^ 63)) × ((p < 2 ^ 63) × (q < 2 ^ 63) → nat_abs (to_z w64 x) ≤ b)
    clear = go (dec_lt x (2 ^ 63))
      where
        go : Dec (x < 2 ^ 63)
            → (nat_abs (to_z w64 x) ≤ b → (p < 2 ^ 63) × (q < 2 ^ 63)) × ((p < 2 ^ 63) × (q < 2 ^ 63) → nat_abs (to_z w64 x) ≤ b)
        go (yes l) =
            let a : nat_abs (to_z w64 x) ≡ x = abs_low w64 l in
            (λ k. (omega arith, omega arith), λ k. omega arith)
        go (no l) =
            let a : nat_abs (to_z w64 x) ≡ 2 ^ 64 - x = abs_high w64 (omega arith) f (omega arith) in
            (λ k. (omega arith, omega arith), λ k. omega arith)

    each : (top_clear p && top_clear q ≡ true) ↔ (nat_abs (to_z w64 x) ≤ b)
    each =
        let pq = both (top_clear p) (top_clear q) (clear_is p) (clear_is q) in
        (λ k. clear.1 (pq.0 k), λ k. pq.1 (clear.0 k))
