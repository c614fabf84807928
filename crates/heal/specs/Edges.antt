-- Document 02, (iv): where the ways to t and to t − 1 part. The totals on both sides are compared from the page that parts them down, since
-- what stands above it is on both ways; and what is asked of an image for that. Over any combining rule. Assumes nothing.
use Rattle.std.specs.Prelude.{ℕ, zero, suc, ◌-◌, ◌<◌, ◌≡◌, Bool, false, cond, ◌&&◌, eqb, ltb}
use Rattle.rule.specs.declared.Pair.{Pair}
use Rattle.rule.specs.Bounds.{Combinable}
use Rattle.rule.specs.Pairs.{same_pair}
use Rattle.page.specs.declared.Entry.{Entry}
use Rattle.page.specs.Entries.{at, index_of}
use Rattle.image.specs.Images.{Image}
use Rattle.steps.specs.Supply.{entries}
use Rattle.steps.specs.Heal.{total_from}
use Rattle.store.specs.Preconditions.{HasEntry, Searchable, entry_for}

module _ (◌⊕◌ : Pair → Pair → Pair) where
  infixl 60 ◌⊕◌
  -- the total at t from an entry of a page one level above the level named down
  abbrev pub total_under : ℕ → ℕ → Entry → Image → Pair
  total_under t l e X = e.pair ⊕ total_from ◌⊕◌ t l e.child X

  -- the i-th entry of a page one level above the level named has one before it, and the totals from both are equal
  abbrev pub sides_agree : ℕ → ℕ → ℕ → ℕ → Image → Bool
  sides_agree t l p i X =
      ltb 0 i && same_pair (total_under t l (at (entries X p) i) X) (total_under (t - 1) l (at (entries X p) (i - 1)) X)

  -- From page p of the level named down, the ways to t and to t − 1 part at an inner page, and the totals from there on are equal.
  unfoldable pub edge_met : ℕ → ℕ → ℕ → Image → Bool
  edge_met t zero p X = false
  edge_met t (suc l) p X =
      let es = entries X p in
      let i = index_of t es in
      cond (eqb (at es i).start t)
      (sides_agree t l p i X)
      (edge_met t l (at es i).child X)

  -- ---- what is asked

  -- the total below e can be read, and the pair of e combined with it
  pub record EntryTotalled (Below : ℕ → Image → Type 0) (t l : ℕ) (e : Entry) (X : Image) : Type 0 where
    pub below : Below e.child X
    pub combines : Combinable e.pair (total_from ◌⊕◌ t l e.child X)

  pub record InnerTotalled (Below : ℕ → Image → Type 0) (t l p : ℕ) (X : Image) : Type 0 where
    pub searchable : Searchable (suc l) p t X
    pub entry : EntryTotalled Below t l (entry_for t p X) X

  -- the total at t from page p of the level named down can be read
  unfoldable pub Totalled : ℕ → ℕ → ℕ → Image → Type 0
  Totalled t zero p X = Searchable zero p t X
  Totalled t (suc l) p X = InnerTotalled (λ q Y. Totalled t l q Y) t l p X

  -- and so the total at t from an entry
  abbrev pub UnderTotalled : ℕ → ℕ → Entry → Image → Type 0
  UnderTotalled t l e X = EntryTotalled (λ q Y. Totalled t l q Y) t l e X

  -- the two entries of page p whose pages meet at t, the right one at i, which isn't the first
  pub record SidesTotalled (t l p i : ℕ) (X : Image) : Type 0 where
    pub right : UnderTotalled t l (at (entries X p) i) X
    pub left : UnderTotalled (t - 1) l (at (entries X p) (i - 1)) X

  -- the i-th entry of page p was read as e, and if it isn't the first both sides can be totalled, t − 1 being an instant
  pub record SidesReadable (t l p i : ℕ) (e : Entry) (X : Image) : Type 0 where
    pub has : HasEntry (suc l) p i X
    pub read : e ≡ at (entries X p) i
    pub instant : 0 < i → 0 < t
    pub sides : 0 < i → SidesTotalled t l p i X

  -- An inner page on the way to t: the ways part there, or go on together.
  pub record WayReadable (Below : ℕ → Image → Type 0) (t l p : ℕ) (X : Image) : Type 0 where
    pub searchable : Searchable (suc l) p t X
    pub sides : (entry_for t p X).start ≡ t → 0 < index_of t (entries X p) → SidesTotalled t l p (index_of t (entries X p)) X
    pub below : ((entry_for t p X).start ≡ t → ⊥) → Below (entry_for t p X).child X

  -- all that `edge_met` reads can be read
  unfoldable pub EdgeReadable : ℕ → ℕ → ℕ → Image → Type 0
  EdgeReadable t zero p X = Unit {0}
  EdgeReadable t (suc l) p X = WayReadable (λ q Y. EdgeReadable t l q Y) t l p X

-- ---- the start that is carried up

-- page p has an i-th entry, and the page below it a first one
pub record Carriable (level p i : ℕ) (X : Image) : Type 0 where
  pub has : HasEntry (suc level) p i X
  pub first : HasEntry level (at (entries X p) i).child 0 X
