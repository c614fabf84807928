-- A change: a booking that is entered or withdrawn. Assumes nothing.
use Rattle.std.specs.Prelude.{ℕ, Bool, true, false, ℤ}
use Rattle.rule.specs.declared.Pair.{Pair}
use Rattle.rule.specs.Pairs.{entry_effect, opposite}

pub data Side : Type 0 where
  entering : Side
  withdrawing : Side

unfoldable pub withdraws : Side → Bool
withdraws entering = false
withdraws withdrawing = true

-- "an entry adds (v, 1), a withdrawal (−v, −1), whether or not such a booking is live"
unfoldable pub effect : Side → ℤ → Pair
effect entering v = entry_effect v
effect withdrawing v = opposite (entry_effect v)

-- value v on [s, e), entered or withdrawn
pub record Change : Type 0 where
  pub side : Side
  pub v : ℤ
  pub s : ℕ
  pub e : ℕ
