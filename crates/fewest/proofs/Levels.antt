-- Numbers of pages, one for each level, of which each has room for the one below: none is below the size of a tight level. Assumes nothing.
use mathlib.Core.Path.{◌≡◌, ap}
use Prim.Native.Nat.{ℕ, zero, suc, ◌+◌, ◌*◌, ◌≤◌, ◌<◌}
use native.Mathlib.Nat.{mul_comm}
use native.Mathlib.Omega.{arith}
use native.Mathlib.Decide.{dec_le, dec_lt}
use lib.ListN.{get_or}
use Rattle.page.specs.Layout.{capacity}
use Rattle.tight.specs.Tight.{pages_for, level_sizes}
use Rattle.tight.proofs.Pages.{pages_least}
use Rattle.tight.proofs.Levels.{sizes_one, sizes_more}

module _ (half : ℕ) (some : 1 ≤ half) (high : ℕ) (on : ℕ → ℕ) (one : on high ≤ 1)
    (room : (l : ℕ) → l < high → on l ≤ capacity half * on (suc l)) where
  -- from level k on, whose pages have room for m entries
  pub sizes_least : (most m k : ℕ) → k ≤ high → m ≤ capacity half * on k → (i : ℕ) → get_or (level_sizes half most m) i 0 ≤ on (k + i)
  unfolding level_sizes
  sizes_least zero m k le fits i = omega arith
  sizes_least (suc most) m k le fits zero =
      let same : on (k + 0) ≡ on k = ap on (omega arith) in
      omega (arith, pages_least half m some (on k) (omega (arith, mul_comm (on k) (capacity half))))
  sizes_least (suc most) m k le fits (suc i) = go (dec_le p 1) (λ lt few. sizes_least most p (suc k) lt few i)
    where
      p : ℕ
      p = pages_for half m

      here : p ≤ on k
      here = pages_least half m some (on k) (omega (arith, mul_comm (on k) (capacity half)))

      -- two pages are not the root
      lower : Dec (k < high) → 2 ≤ p → k < high
      lower (yes l) two = l
      lower (no l) two =
          let e : k ≡ high = omega arith in
          absurd (omega (arith, here, one, ap on e))

      go : Dec (p ≤ 1) → (k < high → p ≤ capacity half * on (suc k) → get_or (level_sizes half most p) i 0 ≤ on (suc k + i))
          → get_or (level_sizes half (suc most) m) (suc i) 0 ≤ on (k + suc i)
      go (yes few) above = omega (arith, ap (λ ns. get_or ns (suc i) 0) (sizes_one half most m few))
      go (no many) above =
          let l : k < high = lower (dec_lt k high) (omega arith) in
          let same : on (k + suc i) ≡ on (suc k + i) = ap on (omega arith) in
          omega (arith, ap (λ ns. get_or ns (suc i) 0) (sizes_more half most m (omega arith)), above l (omega (arith, here, room k l)))
