-- A decoded page as the list of its entries. Assumes nothing.
use Rattle.std.specs.Prelude.{ℕ, ◌≤◌, ◌≡◌, List, get_or, pos}
use lib.ListN.{set}
use Rattle.page.specs.declared.Entry.{Entry}
use Rattle.page.specs.declared.Page.{Page}
use Rattle.page.specs.Entries.{entry}
use Rattle.page.specs.Layout.{capacity, level_of, entry_count, entries_of}
use Rattle.lists.specs.Lists.{listed}

-- the i-th slot of the four arrays
unfoldable pub slot_at : Page → ℕ → Entry
slot_at p i =
    entry (get_or p.starts i 0) (record { sum = get_or p.sums i (pos 0); count = get_or p.counts i (pos 0) })
    (get_or p.children i 0)

-- p with e at the i-th slot
abbrev pub with_slot : ℕ → Entry → Page → Page
with_slot i e p =
    record p {
      starts = set p.starts i e.start;
      sums = set p.sums i e.pair.sum;
      counts = set p.counts i e.pair.count;
      children = set p.children i e.child;
    }

-- as many entries as the page says that it has
unfoldable pub entry_list : Page → List Entry
entry_list p = listed p.len (λ i. slot_at p i)

-- What reading a page gives: all of it where its count of entries is one that a page can have.
pub record Read (half : ℕ) (p : Page) (s : List ℕ) : Type 0 where
  pub level : p.level ≡ level_of s
  pub len : p.len ≡ entry_count s
  pub entries : entry_count s ≤ capacity half → entry_list p ≡ entries_of half s
