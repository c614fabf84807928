-- What the code makes the levels of a tight image of: the runs that are listed in bytes, and the pages of a level. Assumes nothing.
use Rattle.std.specs.Prelude.{ℕ, ◌+◌, ◌*◌, List, length}
use Rattle.lists.specs.Lists.{listed, concat_map}
use Rattle.rule.specs.Pairs.{none}
use Rattle.fields.specs.Numbers.{u32_at, i32_at, i64_at}
use Rattle.page.specs.declared.Entry.{Entry}
use Rattle.page.specs.Entries.{entry}
use Rattle.page.specs.Layout.{start_at}
use Rattle.image.specs.Images.{page_at, cell_bytes}
use Rattle.tight.specs.Tight.{sizes, pages_used, level_cells}
use Rattle.rebuild.specs.declared.TreeSize.{TreeSize}

-- the pages and the levels of a tree with m leaf entries
unfoldable pub tree_size : ℕ → ℕ → TreeSize
tree_size half m = record { pages = pages_used half m; height = length (sizes half m) }

-- "16 bytes each: start (u32), count (i32), sum (i64)": the i-th run that is listed in s, as a leaf entry
unfoldable pub run_entry : List ℕ → ℕ → Entry
run_entry s i = entry (u32_at s (16 * i)) (record { sum = i64_at s (16 * i + 8); count = i32_at s (16 * i + 4) }) 0

-- the first m of them
unfoldable pub run_entries : List ℕ → ℕ → List Entry
run_entries s m = listed m (run_entry s)

-- the entry that leads to page p: it starts where the page's first one does, and "Inner pairs are (0, 0)"
unfoldable pub page_entry : ℕ → List ℕ → ℕ → Entry
page_entry half img p = entry (start_at (page_at half img p) 0) none p

-- those that lead to n pages, the first being page number `first`
unfoldable pub page_entries_from : ℕ → List ℕ → ℕ → ℕ → List Entry
page_entries_from half img first n = listed n (λ i. page_entry half img (first + i))

-- the bytes of the pages of a level
unfoldable pub level_bytes : ℕ → ℕ → List Entry → List ℕ
level_bytes half level es = concat_map (cell_bytes half) (level_cells half level es)
