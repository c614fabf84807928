-- The bounds that every context in a fit tree keeps, and a count of entries that may be used. Assumes nothing.
use Rattle.std.specs.Prelude.{◌≡◌, ℕ, ◌≤◌, List, length}
use Rattle.rule.specs.Averages.{most_sum}
use Rattle.page.specs.Layout.{capacity, page_size, entry_count}
use Rattle.page.specs.Fit.{PageContext, most_changes}

-- what keeps the sums along a path within 64 bits, whatever the next page shows
pub record Bounded (at : PageContext) : Type 0 where
  pub sums : at.sums ≤ most_sum
  pub counts : at.counts ≤ most_changes

-- n is the count of entries of a page, and has been compared with the page's capacity
pub record Compared (half : ℕ) (s : List ℕ) (n : ℕ) : Type 0 where
  pub size : length s ≡ page_size half
  pub len : n ≡ entry_count s
  pub some : 1 ≤ n
  pub most : n ≤ capacity half
