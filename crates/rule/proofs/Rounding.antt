-- Rounding: the code's way leads to `hundredths`, and each way out of it to the average. Assumes nothing.
use Rattle.std.proofs.Common.{◌≡◌, ℕ, suc, ◌*◌, ◌/◌, ◌%◌, ◌<◌, ◌≤◌, Bool, true, false, cond, not, ◌||◌, eqb, ℤ, pos, negsuc, ◌+ℤ◌, ◌*ℤ◌, neg_ℤ, nat_abs, refl, ap, ◌∙◌, ⊎_elim, true≢false, not-suc-le-zero, mod-lt, div-le_self, arith, w64, SFits, of_z, ltb-true, le-ltb, lt-ltb, leb-false}
use lib.IntN.{neg_ℤ-+ℤ}
use lib.Signed.{quot_z, rem_z, le_z, lt_z}
use Rattle.rule.specs.declared.Pair.{Pair}
use Rattle.rule.specs.declared.Average.TheVariants.{Hundredths, Nothing, Beyond}
use Rattle.rule.specs.Averages.{next_taken, nearest, hundredths, signed_as, most_sum, average}
use Rattle.rule.specs.Bounds.{Averageable}
use Rattle.rule.proofs.Signed.{sfits_nat_abs, nat_abs_neg, nat_abs_add, nat_abs_mul, nat_abs_quot, nat_abs_rem, quot_neg, rem_neg, parity}

-- ---- the code's way: division cuts towards zero, and a step on the sum's side may follow

pub signed_as_neg : (sum count : ℤ) → lt_z sum (pos 0) ≡ true → signed_as sum count ≡ neg_ℤ count
unfolding signed_as
signed_as_neg (pos n) count e = absurd (not-suc-le-zero (ltb-true n 0 e))
signed_as_neg (negsuc n) count e = refl

pub signed_as_pos : (sum count : ℤ) → lt_z sum (pos 0) ≡ false → signed_as sum count ≡ count
unfolding signed_as
signed_as_pos (pos n) count e = refl
signed_as_pos (negsuc n) count e = absurd (true≢false e)

nat_abs_signed_as : (sum count : ℤ) → nat_abs (signed_as sum count) ≡ nat_abs count
unfolding signed_as
nat_abs_signed_as (pos n) count = refl
nat_abs_signed_as (negsuc n) count = nat_abs_neg count

positive : (z : ℤ) → le_z z (pos 0) ≡ false → (z ≡ pos (nat_abs z)) × (0 < nat_abs z)
positive (pos n) e = (refl, leb-false n 0 e)
positive (negsuc n) e = absurd (true≢false e)

-- what a division by 2 leaves is 0 or not, whatever the sign
pub even_bits : (z : ℤ) → eqb (of_z w64 (rem_z z (pos 2))) 0 ≡ eqb (nat_abs z % 2) 0
even_bits (pos n) = refl
even_bits (negsuc n) = ⊎_elim (λ e. rw e refl) (λ e. rw e refl) (parity (suc n))

-- where the code stands before it has chosen
abbrev quotient : ℤ → ℤ → ℤ
quotient sum count = quot_z (pos 100 *ℤ sum) count

abbrev rest : ℤ → ℤ → ℤ
rest sum count = rem_z (pos 100 *ℤ sum) count

-- and what it may choose
abbrev choice : ℤ → ℤ → ℤ
choice sum count =
    cond (next_taken (nat_abs (quotient sum count)) (nat_abs (rest sum count)) (nat_abs count)) (quotient sum count +ℤ signed_as sum (pos 1))
    (quotient sum count)

-- q or the next, above zero and below it
step_up : (t : Bool) (q : ℕ) → pos (cond t (suc q) q) ≡ cond t (pos q +ℤ pos 1) (pos q)
step_up true q = ap pos (omega arith)
step_up false q = refl

step_down : (t : Bool) (q : ℕ) → neg_ℤ (pos (cond t (suc q) q)) ≡ cond t (neg_ℤ (pos q) +ℤ negsuc 0) (neg_ℤ (pos q))
step_down true q = ap neg_ℤ (step_up true q) ∙ neg_ℤ-+ℤ (pos q) (pos 1)
step_down false q = refl

chosen : (sum : ℤ) (d : ℕ) → hundredths sum d ≡ choice sum (pos d)
unfolding hundredths nearest signed_as
chosen (pos n) d = step_up (next_taken (100 * n / d) (100 * n % d) d) (100 * n / d)
chosen (negsuc n) d =
    rw (quot_neg (100 * suc n) d, rem_neg (100 * suc n) d, nat_abs_neg (pos (100 * suc n / d)), nat_abs_neg (pos (100 * suc n % d)))
    (step_down (next_taken (100 * suc n / d) (100 * suc n % d) d) (100 * suc n / d))

-- Each number on the way fits, and the choice is the average.
pub record Steps (sum count : ℤ) : Type 0 where
  pub scaled : SFits w64 (pos 100 *ℤ sum)
  pub divided : SFits w64 (quotient sum count)
  pub left : SFits w64 (rest sum count)
  pub step : SFits w64 (signed_as sum (pos 1))
  pub stepped : SFits w64 (quotient sum count +ℤ signed_as sum (pos 1))
  pub done : hundredths sum (nat_abs count) ≡ choice sum count

pub steps : (sum count : ℤ) → Averageable sum count → Steps sum count
steps sum count ok =
    let d = positive count ok.some in
    let scale = nat_abs_mul (pos 100) sum in
    let size = nat_abs_quot (pos 100 *ℤ sum) count in
    let less = div-le_self (nat_abs (pos 100 *ℤ sum)) (nat_abs count) in
    let over = nat_abs_rem (pos 100 *ℤ sum) count in
    let small = mod-lt (nat_abs (pos 100 *ℤ sum)) d.1 in
    let one = nat_abs_signed_as sum (pos 1) in
    let next = nat_abs_add (quotient sum count) (signed_as sum (pos 1)) in
    record {
      scaled = sfits_nat_abs w64 (omega arith);
      divided = sfits_nat_abs w64 (omega arith);
      left = sfits_nat_abs w64 (omega arith);
      step = sfits_nat_abs w64 (omega arith);
      stepped = sfits_nat_abs w64 (omega arith);
      done = rw d.0 (chosen sum (nat_abs count));
    }

-- ---- the ways out of the code, over the tests that it makes

-- kind 2 or 3, or a count of zero or below
abbrev pub no_average : ℕ → Pair → Bool
no_average kind p = not (eqb kind 1) || le_z p.count (pos 0)

module _ (kind : ℕ) (p : Pair) where
  pub average_nothing : no_average kind p ≡ true → Nothing ≡ average kind p
  unfolding average
  average_nothing e = rw e

  pub average_beyond : no_average kind p ≡ false → most_sum < nat_abs p.sum → Beyond ≡ average kind p
  unfolding average
  average_beyond e h = rw (e, lt-ltb most_sum (nat_abs p.sum) h)

  pub average_shown : no_average kind p ≡ false → nat_abs p.sum ≤ most_sum
      → Hundredths (hundredths p.sum (nat_abs p.count)) ≡ average kind p
  unfolding average
  average_shown e h = rw (e, le-ltb most_sum (nat_abs p.sum) h)
