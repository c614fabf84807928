-- Images that can be cut: what steps A and B ask of each page that they read or write, in the image as the definition has it then.
-- Assumes nothing.
use Rattle.std.specs.Prelude.{ℕ, zero, suc, ◌≤◌, ◌<◌, ◌≡◌, length}
use Rattle.rule.specs.Time.{END}
use Rattle.page.specs.declared.Entry.{Entry}
use Rattle.page.specs.Layout.{capacity}
use Rattle.image.specs.Images.{Image}
use Rattle.steps.specs.Supply.{entries}
use Rattle.steps.specs.Cut.{Cutting, cut_entry, root_entry}
use Rattle.store.specs.Preconditions.{TreePage, HasEntry, Searchable, entry_for, Takable}

-- page p of level l can have one more entry as its i-th
pub record HasPlace (l p i : ℕ) (X : Image) : Type 0 where
  pub tree_page : TreePage l p X
  pub inside : i ≤ length (entries X p)

-- and is full, and another can be taken: one entry more than the capacity splits it
pub record Splittable (half l p i : ℕ) (X : Image) : Type 0 where
  pub place : HasPlace l p i X
  pub low : l < 255
  pub full : length (entries X p) ≡ capacity half
  pub takable : Takable X

-- page p of level l can gain an entry behind its i-th: if it is full, it can be split
pub record Insertable (half l p i : ℕ) (X : Image) : Type 0 where
  pub has_entry : HasEntry l p i X
  pub low : l < 255
  pub room : capacity half ≤ length (entries X p) → Takable X

-- what becomes of the entry of page p that has t, and the image then: page p is of level l
abbrev pub below : ℕ → ℕ → ℕ → ℕ → Image → Cutting
below half l p t X = cut_entry half t l (entry_for t p X) X

-- Page p of level l can be searched for t. What is cut below it leaves it as it is, so that the entry is where it was found; if that
-- became two in a full page, a page can be taken then.
pub record PageCuttable (half l p t : ℕ) (X : Image) : Type 0 where
  pub searchable : Searchable l p t X
  pub low : l < 255
  pub kept : (below half l p t X).image.page p ≡ X.page p
  pub room : 1 < length (below half l p t X).became → capacity half ≤ length (entries X p) → Takable (below half l p t X).image

-- so is each page on the way down from an entry; a leaf's leads nowhere
unfoldable pub EntryCuttable : ℕ → ℕ → Entry → ℕ → Image → Type 0
EntryCuttable half zero e t X = Unit {0}
EntryCuttable half (suc l) e t X = PageCuttable half l e.child t X × EntryCuttable half l (entry_for t e.child X) t X

-- a page can be taken for a new root, whose level is one that a page can have
pub record RootGrowable (X : Image) : Type 0 where
  pub takable : Takable X
  pub low : X.head.height < 255

-- the root as an entry, cut at t
abbrev pub from_root : ℕ → ℕ → Image → Cutting
from_root half t X = cut_entry half t X.head.height (root_entry X) X

pub record RootCuttable (half t : ℕ) (X : Image) : Type 0 where
  pub low : X.head.height < 255
  pub entry : EntryCuttable half X.head.height (root_entry X) t X
  pub room : 1 < length (from_root half t X).became → Takable (from_root half t X).image

-- "nothing if t is END": then nothing is asked
pub record Cuttable (half t : ℕ) (X : Image) : Type 0 where
  pub root : t < END → RootCuttable half t X
