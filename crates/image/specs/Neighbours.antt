-- Document 02, (iv): "From then on a kind 1 image is sound only if no two neighbouring leaf entries have equal totals, so its leaf entries
-- number exactly the runs." Assumes nothing.
use Rattle.std.specs.Prelude.{ℕ, zero, suc, ◌-◌, Bool, List}
use Rattle.lists.specs.Lists.{total}
use Rattle.rule.specs.Time.{END}
use Rattle.page.specs.Layout.{entry_count, child_at, head_of}
use Rattle.image.specs.Images.{page_at}
use Rattle.image.specs.Listing.{neighbours_differ, walk_over}

-- "no two neighbouring leaf entries have equal totals": a walk over all instants finds a run for each leaf entry, with its total
unfoldable pub neighbours_apart : ℕ → List ℕ → Bool
neighbours_apart half img = neighbours_differ (walk_over half img 0 END).runs

-- how many entries the leaf pages have, from page p of the level named on down
unfoldable pub entries_below : ℕ → List ℕ → ℕ → ℕ → ℕ
entries_below half img zero p = entry_count (page_at half img p)
entries_below half img (suc l) p =
    let s = page_at half img p in
    total (entry_count s) (λ i. entries_below half img l (child_at half s i))

-- "its leaf entries": from the root
unfoldable pub leaf_entries : ℕ → List ℕ → ℕ
leaf_entries half img =
    let h = head_of (page_at half img 0) in
    entries_below half img (h.height - 1) h.root
