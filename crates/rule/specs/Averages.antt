-- Document 01, "Time and value": the average; document 02, (ix): how it is rounded. Assumes nothing.
use Rattle.std.specs.Prelude.{◌≡◌, ℕ, suc, ◌*◌, ◌/◌, ◌%◌, ◌≤◌, Bool, cond, not, ◌&&◌, ◌||◌, ◌≢◌, ℤ, pos, negsuc, ◌-ℤ◌, ◌*ℤ◌, neg_ℤ, ◌==◌, int_le, nat_lt, unsigned_abs}
use Rattle.rule.specs.declared.Pair.{Pair}
use Rattle.rule.specs.declared.Average.{Average}
use Rattle.rule.specs.declared.Average.TheVariants.{Hundredths, Nothing, Beyond}

-- Division by d gave q and left r. Whether q + 1 is taken instead of q: it is nearer, or it is as near and q is odd.
unfoldable pub next_taken : ℕ → ℕ → ℕ → Bool
next_taken q r d = nat_lt d (2 * r) || (2 * r == d && not (q % 2 == 0))

-- the whole number nearest n / d, of two that are equally near the even one
unfoldable pub nearest : ℕ → ℕ → ℕ
nearest n d = cond (next_taken (n / d) (n % d) d) (suc (n / d)) (n / d)

-- d times the distance of n / d from the whole number k
abbrev pub distance : ℤ → ℕ → ℤ → ℕ
distance n d k = unsigned_abs (n -ℤ k *ℤ pos d)

-- What `nearest` says, by the words alone and below zero too: no whole number is nearer than k, and where another is as near, k is even.
pub record Nearest (n : ℤ) (d : ℕ) (k : ℤ) : Type 0 where
  pub none_nearer : (j : ℤ) → distance n d k ≤ distance n d j
  pub even : (j : ℤ) → j ≢ k → distance n d j ≡ distance n d k → unsigned_abs k % 2 ≡ 0

-- k is `Nearest`, and no other number is
pub record TheNearest (n : ℤ) (d : ℕ) (k : ℤ) : Type 0 where
  pub is : Nearest n d k
  pub only : (j : ℤ) → Nearest n d j → j ≡ k

-- "in hundredths: the whole number nearest 100 × sum / count", and (ix): "a half goes to the even hundredth"
unfoldable pub hundredths : ℤ → ℕ → ℤ
hundredths (pos n) count = pos (nearest (100 * n) count)
hundredths (negsuc n) count = neg_ℤ (pos (nearest (100 * suc n) count))

-- a step on the side of the sum's sign
unfoldable pub signed_as : ℤ → ℤ → ℤ
signed_as (pos n) step = step
signed_as (negsuc n) step = neg_ℤ step

-- the greatest absolute sum that a fit page can show: 1,000,000 × 1,000,000,000
abbrev pub most_sum : ℕ
most_sum = 1000000000000000

-- "The average, kind 1 only .. It is 'none' where count ≤ 0 or for kinds 2 and 3."
-- Beyond is the answer for a sum that no fit page can show, and so no call on an image.
unfoldable pub average : ℕ → Pair → Average
average kind p =
    cond (not (kind == 1) || int_le p.count (pos 0)) Nothing
    (cond (nat_lt most_sum (unsigned_abs p.sum)) Beyond
    (Hundredths (hundredths p.sum (unsigned_abs p.count))))
