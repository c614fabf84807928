-- What an edited page shows. Assumes nothing.
use Rattle.std.specs.Prelude.{ℕ, ◌≡◌, List}
use Rattle.page.specs.declared.Entry.{Entry}
use Rattle.page.specs.declared.Page.{Page}
use Rattle.page.specs.Decoded.{slot_at, entry_list}
use Rattle.lists.specs.Lists.{listed}

-- the first n slots of a page, whether or not it says that it has so many entries
unfoldable pub first_slots : ℕ → Page → List Entry
first_slots n p = listed n (λ i. slot_at p i)

-- the page r has this level and these entries
pub record HasEntries (l : ℕ) (es : List Entry) (r : Page) : Type 0 where
  pub level : r.level ≡ l
  pub entries : entry_list r ≡ es
