-- Document 02, (iii), "Rebuild into a clean image": "the runs of the full listing become the leaf entries, m runs in the fewest pages, page
-- sizes differing by at most one, larger first, and so at each level up. Leaf pages come first from page 1 in time order, then each level."
-- The tight image of a list of runs, over half the capacity of a page. Assumes nothing.
use Rattle.std.specs.Prelude.{ℕ, zero, suc, ◌+◌, ◌-◌, ◌/◌, ◌%◌, Bool, cond, List, [], ◌∷◌, ◌++◌, map, length, get_or, take, drop, leb, ltb}
use Rattle.lists.specs.Lists.{listed, sum, total}
use Rattle.rule.specs.Pairs.{none}
use Rattle.page.specs.declared.Entry.{Entry}
use Rattle.page.specs.declared.Head.{Head}
use Rattle.page.specs.Entries.{entry, at}
use Rattle.page.specs.Layout.{capacity}
use Rattle.image.specs.Images.{Image, Cell, tree, never_used}
use Rattle.image.specs.Listing.{Run}

-- ---- one level

-- "m runs in the fewest pages", and so the entries of each level: as many as the capacity asks, rounded up
unfoldable pub pages_for : ℕ → ℕ → ℕ
pages_for half m = (m + (capacity half - 1)) / capacity half

-- "page sizes differing by at most one, larger first": how many of m entries the i-th of p pages has
unfoldable pub page_entries : ℕ → ℕ → ℕ → ℕ
page_entries m p i = m / p + cond (ltb i (m % p)) 1 0

-- and how many the pages before it have
unfoldable pub entries_before : ℕ → ℕ → ℕ → ℕ
entries_before m p i = total i (page_entries m p)

-- what stands in the i-th page of a level, of all that stands in the level
unfoldable pub in_page : {A : Type 0} → ℕ → List A → ℕ → List A
in_page half es i =
    let p = pages_for half (length es) in
    take (page_entries (length es) p i) (drop (entries_before (length es) p i) es)

-- the pages of a level, in time order
unfoldable pub level_cells : ℕ → ℕ → List Entry → List Cell
level_cells half level es = listed (pages_for half (length es)) (λ i. tree level (in_page half es i))

-- "Inner pairs are (0, 0)": the entries of the level above, one for each of these pages, from page number `first` on
unfoldable pub entries_above : ℕ → ℕ → List Entry → List Entry
entries_above half first es = listed (pages_for half (length es)) (λ i. entry (at (in_page half es i) 0).start none (first + i))

-- ---- all levels

-- How many pages each level has, the leaves first, up to the root, which is one page. `most` levels are told at most: a level has fewer
-- entries than the one below it, so a tree has no more levels than leaf entries.
unfoldable pub level_sizes : ℕ → ℕ → ℕ → List ℕ
level_sizes half zero m = []
level_sizes half (suc most) m =
    let p = pages_for half m in
    let above = level_sizes half most p in
    p ∷ cond (leb p 1) [] above

-- the levels of a tree with m leaf entries, and how many pages they have together
unfoldable pub sizes : ℕ → ℕ → List ℕ
sizes half m = level_sizes half m m

unfoldable pub pages_used : ℕ → ℕ → ℕ
pages_used half m = sum (λ p. p) (sizes half m)

-- "then each level": the pages of a level with these entries, its first page being page number `first`, and of the levels above it
unfoldable pub cells : ℕ → ℕ → ℕ → ℕ → List Entry → List Cell
cells half zero level first es = []
cells half (suc most) level first es =
    let p = pages_for half (length es) in
    let above = cells half most (suc level) (first + p) (entries_above half first es) in
    level_cells half level es ++ cond (leb p 1) [] above

-- ---- the image

-- a run as a leaf entry
unfoldable pub leaf_entry : Run → Entry
leaf_entry r = entry r.start r.pair 0

-- the pages from page 1 on
unfoldable pub tight_cells : ℕ → List Run → List Cell
tight_cells half runs = cells half (length runs) 0 1 (map leaf_entry runs)

-- "the chain is empty, the high mark follows the last page used; kind, window and changes are kept." The last page used is the root.
-- Document 02, (xi): "A rebuild keeps K .. and writes the field". By how many pages are used and how many levels there are.
abbrev pub tight_head : ℕ → ℕ → ℕ → ℕ → ℕ → ℕ → ℕ → Head
tight_head half pages kind window changes used height =
    record {
      pages = pages;
      height = height;
      root = used;
      free = 0;
      chain = 0;
      mark = suc used;
      kind = kind;
      window = window;
      changes = changes;
      capacity = capacity half;
    }

unfoldable pub tight : ℕ → ℕ → ℕ → ℕ → ℕ → List Run → Image
tight half pages kind window changes runs =
    let m = length runs in
    record {
      head = tight_head half pages kind window changes (pages_used half m) (length (sizes half m));
      page = λ p. get_or (tight_cells half runs) (p - 1) never_used;
    }

-- "24 if n is too small": for the head and those pages
unfoldable pub too_small : ℕ → ℕ → ℕ → Bool
too_small half pages m = ltb pages (suc (pages_used half m))
