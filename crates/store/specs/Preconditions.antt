-- What the steps of a change ask of their image, one vocabulary for cut, combine and heal: pages that can be read, searched and written,
-- pages that can be taken and given back, and a pair that can go down by a level. What one step alone asks stands in its own crate.
-- Assumes nothing.
use Rattle.std.specs.Prelude.{ℕ, suc, ◌≤◌, ◌<◌, ◌^◌, ◌≡◌, List, length}
use Rattle.rule.specs.Bounds.{Combinable}
use Rattle.page.specs.declared.Entry.{Entry}
use Rattle.page.specs.Entries.{at, index_of}
use Rattle.page.specs.Layout.{capacity}
use Rattle.image.specs.Images.{Image, Cell, tree, free}
use Rattle.steps.specs.Supply.{entries, spare}
use Rattle.steps.specs.Combine.{end_in}
use Rattle.store.specs.declared.Found.{Found}

-- ---- a page

-- page p is one of the image's but the head
pub record InImage (p : ℕ) (X : Image) : Type 0 where
  pub least : 1 ≤ p
  pub below : p < X.head.pages

-- page p is a tree page of that level
pub record TreePage (level p : ℕ) (X : Image) : Type 0 where
  pub within : InImage p X
  pub page : X.page p ≡ tree level (entries X p)

-- and it has an i-th entry
pub record HasEntry (level p i : ℕ) (X : Image) : Type 0 where
  pub tree_page : TreePage level p X
  pub inside : i < length (entries X p)

-- and it has room for one more, as its i-th
pub record HasRoom (half level p i : ℕ) (X : Image) : Type 0 where
  pub tree_page : TreePage level p X
  pub inside : i ≤ length (entries X p)
  pub room : length (entries X p) < capacity half

-- and it has an entry that has t: one starts at t or before, and the starts rise
pub record Searchable (level p t : ℕ) (X : Image) : Type 0 where
  pub tree_page : TreePage level p X
  pub some : 1 ≤ length (entries X p)
  pub rising : (i : ℕ) → suc i < length (entries X p) → (at (entries X p) i).start < (at (entries X p) (suc i)).start
  pub first : (at (entries X p) 0).start ≤ t

-- What a search for t finds among these entries, of a page that ends at hi. Document 02, (viii): "Finding the entry in a page shall give its
-- end as well as its place, and all who use it pass that up".
unfoldable pub found_in : ℕ → ℕ → List Entry → Found
found_in hi t es =
    let i = index_of t es in
    record { count = length es; index = i; entry = at es i; end = end_in hi es i }

-- the entry of page p that has t
abbrev pub entry_for : ℕ → ℕ → Image → Entry
entry_for t p X = at (entries X p) (index_of t (entries X p))

-- ---- the pair above a page

-- the page under e is a tree page of that level, and the pair of e can be "combined into its page's entries"
pub record PushReady (level : ℕ) (e : Entry) (X : Image) : Type 0 where
  pub tree_page : TreePage level e.child X
  pub each : (i : ℕ) → i < length (entries X e.child) → Combinable e.pair (at (entries X e.child) i).pair

-- ---- the free list

-- a free page
pub record Free (c : Cell) : Type 0 where
  pub next : ℕ
  pub is : c ≡ free next

-- "Pages are taken from the chain's front, else at the high mark": the page that is taken next is one of the image's, and the chain's
-- first is free
pub record Takable (X : Image) : Type 0 where
  pub within : InImage (spare X) X
  pub front : 1 ≤ X.head.chain → Free (X.page X.head.free)

-- "given back to the front": the chain can be one longer
abbrev pub ChainRoom : Image → Type 0
ChainRoom X = suc X.head.chain < 2 ^ 32

-- page p can be given back
pub record Givable (p : ℕ) (X : Image) : Type 0 where
  pub within : InImage p X
  pub room : ChainRoom X

-- ---- the count of changes

-- "Then changes rises by 1."
pub record Countable (X : Image) : Type 0 where
  pub room : suc X.head.changes < 2 ^ 32
