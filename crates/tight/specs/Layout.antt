-- Document 02, (iii), read off the pages of an image that has been rebuilt, apart from the numbers by which the tight image is defined.
-- Assumes nothing.
use Rattle.std.specs.Prelude.{ℕ, suc, ◌<◌, ◌≤◌, ◌≡◌, ◌≢◌, ◌⊎◌, List}
use Rattle.rule.specs.Time.{END}
use Rattle.rule.specs.Pairs.{none}
use Rattle.page.specs.Layout.{level_of, entry_count, start_at, pair_at}
use Rattle.image.specs.Images.{page_at}
use Rattle.image.specs.Listing.{Run, walk_over}

-- of the pages from page 1 up to the high mark
pub record LaidOut (half : ℕ) (img : List ℕ) (mark : ℕ) (runs : List Run) : Type 0 where
  -- "the runs of the full listing become the leaf entries": a walk over all time finds just these, and none to be joined
  pub leaves : (walk_over half img 0 END).runs ≡ runs
  -- "Leaf pages come first from page 1 in time order, then each level."
  pub in_order :
      (p q : ℕ) → 1 ≤ p → p < q → q < mark
      → (level_of (page_at half img p) < level_of (page_at half img q))
      ⊎ ((level_of (page_at half img p) ≡ level_of (page_at half img q))
      × (start_at (page_at half img p) 0 < start_at (page_at half img q) 0))
  -- "page sizes differing by at most one, larger first, and so at each level up"
  pub evenly :
      (p q : ℕ) → 1 ≤ p → p < q → q < mark → level_of (page_at half img p) ≡ level_of (page_at half img q)
      → (entry_count (page_at half img q) ≤ entry_count (page_at half img p))
      × (entry_count (page_at half img p) ≤ suc (entry_count (page_at half img q)))
  -- "Inner pairs are (0, 0)"
  pub no_pairs :
      (p i : ℕ) → 1 ≤ p → p < mark → level_of (page_at half img p) ≢ 0 → i < entry_count (page_at half img p)
      → pair_at half (page_at half img p) i ≡ none
