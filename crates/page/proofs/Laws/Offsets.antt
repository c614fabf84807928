-- Where the pages of an image stand: an offset is a product of two numbers. Assumes nothing.
use Prim.Native.Nat.{ℕ, ◌+◌, ◌*◌, ◌≤◌, ◌<◌}
use native.Mathlib.Nat.{mul-le-mul_left}
use native.Mathlib.Omega.{arith}
use Rattle.page.specs.Layout.{page_size}

-- page p ends within n pages
pub page_within : (half : ℕ) {p n : ℕ} → p < n → page_size half * p + page_size half ≤ page_size half * n
page_within half l = omega (arith, mul-le-mul_left (page_size half) l)
