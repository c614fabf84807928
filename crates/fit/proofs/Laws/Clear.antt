-- The quick test of a leaf's entries: an `or` is at least each of its numbers, so that what bounds it bounds them. Assumes nothing.
use Rattle.std.proofs.Common.{◌≡◌, ℕ, ◌+◌, ◌-◌, ◌*◌, ◌/◌, ◌%◌, ◌^◌, ◌<◌, ◌≤◌, true, ◌&&◌, List, nat_abs, sym, ap, ◌∙◌, ap₂, arith, w32, w64, to_z}
use mathlib.Core.Bool.{and-eq-true_iff}
use native.Mathlib.Decide.{dec_lt}
use lib.Bits.{bit_or, or_add_and, and_le_l, and_le_r}
use Rattle.fields.proofs.Laws.Tests.{every_of}
use Rattle.rule.proofs.Wrapped.{abs_low, abs_high}
use Rattle.page.specs.Layout.{pair_at, child_at}
use Rattle.page.specs.Fit.{child_ok, pair_ok}
use Rattle.fit.specs.declared.Limits.{Limits}
use Rattle.fit.specs.Limits.{allows, Small, Leaf, entry_ok, Tells}
use Rattle.fit.proofs.Tests.{le_is, lt_is}

pub or_least : (a b : ℕ) → (a ≤ bit_or a b) × (b ≤ bit_or a b)
or_least a b = (omega (arith, or_add_and a b, and_le_r a b), omega (arith, or_add_and a b, and_le_l a b))

-- the bits of the i-th entry, its count and child in one, and that the two `or` are at least as much
pub record Under (half : ℕ) (l : Limits) (s : List ℕ) (sums marks i : ℕ) : Type 0 where
  pub bits : ℕ
  pub mark : ℕ
  pub fits : bits < 2 ^ 64
  pub sum : to_z w64 bits ≡ (pair_at half s i).sum
  pub count : to_z w32 (mark % 2 ^ 32) ≡ (pair_at half s i).count
  pub child : mark / 2 ^ 32 ≡ child_at half s i
  pub under_sums : (bits + l.sum) % 2 ^ 64 ≤ sums
  pub under_marks : mark ≤ marks

-- the same of more entries
pub under_more : {half : ℕ} {l : Limits} {s : List ℕ} {sums marks i : ℕ} (x m : ℕ) → Under half l s sums marks i
    → Under half l s (bit_or sums x) (bit_or marks m) i
under_more {sums = sums} {marks = marks} x m u =
    record {
      bits = u.bits;
      mark = u.mark;
      fits = u.fits;
      sum = u.sum;
      count = u.count;
      child = u.child;
      under_sums = omega (arith, u.under_sums, or_least sums x);
      under_marks = omega (arith, u.under_marks, or_least marks m);
    }

-- a sum that wraps no further than twice the limit is within it
sum_within : (x b : ℕ) → x < 2 ^ 64 → b < 2 ^ 52 → (x + b) % 2 ^ 64 ≤ 2 * b → nat_abs (to_z w64 x) ≤ b
sum_within x b f g h = go (dec_lt x (2 ^ 63))
  where
    go : Dec (x < 2 ^ 63) → nat_abs (to_z w64 x) ≤ b
    go (yes l) =
        let a : nat_abs (to_z w64 x) ≡ x = abs_low w64 l in
        omega arith
    go (no l) =
        let a : nat_abs (to_z w64 x) ≡ 2 ^ 64 - x = abs_high w64 (omega arith) f (omega arith) in
        omega arith

module _ {half : ℕ} {l : Limits} {s : List ℕ} {sums marks : ℕ} (small : Small l) (leaf : Leaf l) (a : sums ≤ 2 * l.sum)
    (b : marks ≤ l.below)
  where
    under_allowed : {i : ℕ} (u : Under half l s sums marks i) → allows l u.bits (u.mark % 2 ^ 32) (u.mark / 2 ^ 32) ≡ true
    unfolding allows
    under_allowed u =
        let m = u.mark in
        let near : nat_abs (to_z w64 u.bits) ≤ l.sum =
        sum_within u.bits l.sum u.fits small.sum (omega (arith, a, u.under_sums)) in
        let low : m < 2 ^ 32 = omega (arith, b, u.under_marks, small.below) in
        let first : l.first ≤ m / 2 ^ 32 = omega (arith, leaf.first) in
        let past : m / 2 ^ 32 < l.past = omega (arith, leaf.past) in
        let wide : nat_abs (to_z w64 u.bits) ≤ l.sum + l.each * (m % 2 ^ 32) = omega arith in
        let few : (m % 2 ^ 32 + l.below) % 2 ^ 32 ≤ l.span = omega (arith, b, u.under_marks, small.twice) in
        (and-eq-true_iff _ _).1 (
          (and-eq-true_iff _ _).1 ((le_is _ _).1 first, (lt_is _ _).1 past),
          (and-eq-true_iff _ _).1 ((le_is _ _).1 wide, (le_is _ _).1 few),
        )

    pub clearly_tells : {n : ℕ} → ((i : ℕ) → i < n → Under half l s sums marks i) → Tells half l s n true
    clearly_tells {n} each h at limits = sym (every_of n _ (λ i k. allowed i (each i k)))
      where
        allowed : (i : ℕ) → Under half l s sums marks i → entry_ok half h at s i ≡ true
        allowed i u =
            sym (limits.same u.bits (u.mark % 2 ^ 32) (u.mark / 2 ^ 32) u.fits (omega arith)
            ∙ ap₂ ◌&&◌ (ap (child_ok h.pages at.level) u.child)
            (ap (pair_ok h at) (λ j. record { sum = u.sum j; count = u.count j })))
            ∙ under_allowed u
