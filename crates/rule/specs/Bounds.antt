-- What fit pages give of their pairs, so that nothing overflows. Assumes nothing.
use Rattle.std.specs.Prelude.{◌≡◌, ℕ, ◌+◌, ◌^◌, ◌<◌, ◌≤◌, Bool, true, false, ◌&&◌, ◌||◌, ℤ, pos, int_le, nat_eq, nat_lt, unsigned_abs}
use Rattle.rule.specs.declared.Pair.{Pair}
use Rattle.rule.specs.Time.{most_value, value_ok}
use Rattle.rule.specs.Pairs.{none, same_number, same_pair}
use Rattle.rule.specs.Averages.{most_sum}

-- "kinds 2 and 3 have (0, 0) or a value with 1"
unfoldable pub value_or_none : Pair → Bool
value_or_none p = same_pair p none || (value_ok p.sum && same_number p.count (pos 1))

-- the test of a number of 64 bits whose top bit tells whether a comparison failed
abbrev pub top_clear : ℕ → Bool
top_clear r = nat_lt r (2 ^ 63)

-- What a change that rows 13 and 22 don't turn back combines with.
pub record Effective (kind : ℕ) (p : Pair) : Type 0 where
  pub sum : unsigned_abs p.sum ≤ most_value
  pub count : unsigned_abs p.count ≤ 1
  pub value : nat_eq kind 1 ≡ false → value_or_none p ≡ true

-- Two pairs that can be combined: a change in flight may pass a fit page's bound by one change.
pub record Combinable (p q : Pair) : Type 0 where
  pub sums : unsigned_abs p.sum + unsigned_abs q.sum ≤ most_sum + most_value
  pub counts : unsigned_abs p.count + unsigned_abs q.count ≤ 1000000001

-- a sum that a fit page can show, over a count above zero
pub record Averageable (sum count : ℤ) : Type 0 where
  pub shown : unsigned_abs sum ≤ most_sum
  pub some : int_le count (pos 0) ≡ false
  pub narrow : unsigned_abs count < 2 ^ 32
