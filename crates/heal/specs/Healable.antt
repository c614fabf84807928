-- Images that can be healed: what steps D and E ask of each page that they read or write, in the image as the definition has it at that
-- moment. Assumes nothing.
use Rattle.std.specs.Prelude.{ℕ, zero, suc, ◌-◌, ◌≤◌, ◌<◌, ◌≡◌, Bool, true, cond, ◌&&◌, eqb, length}
use Rattle.rule.specs.Pairs.{combine}
use Rattle.page.specs.declared.Entry.{Entry}
use Rattle.page.specs.Entries.{at, index_of}
use Rattle.image.specs.Images.{Image}
use Rattle.steps.specs.Supply.{entries}
use Rattle.steps.specs.Heal.{short, rebalance, joins_edge, carry, heal_page}
use Rattle.store.specs.Preconditions.{TreePage, HasEntry, Searchable, entry_for, PushReady, ChainRoom}
use Rattle.rebalance.specs.Siblings.{Rebalanceable}
use Rattle.heal.specs.Edges.{edge_met, EdgeReadable, Carriable}

-- page p of that level has an i-th entry, which was read as e
pub record EntryRead (e : Entry) (level p i : ℕ) (X : Image) : Type 0 where
  pub has : HasEntry level p i X
  pub read : e ≡ at (entries X p) i

-- The child page q, under the i-th entry of page p, was healed: it is a tree page, and if it is short it can be rebalanced.
pub record RebalanceableIfShort (half level p i q : ℕ) (X : Image) : Type 0 where
  pub tree_page : TreePage level q X
  pub rebalances : short half q X ≡ true → Rebalanceable half level p i X

-- what that leaves
unfoldable pub rebalance_if_short : ℕ → ℕ → ℕ → ℕ → ℕ → ℕ → Image → Image
rebalance_if_short half kind level p i q X = cond (short half q X) (rebalance half (combine kind) level p i X) X

-- An inner page: it can be searched, and its child page can be healed. In what that leaves, at an edge, the new first start can be carried
-- up, and then the child page can be rebalanced.
pub record InnerHealable (half kind : ℕ) (edge : Bool) (t level p : ℕ) (Below : ℕ → Image → Type 0) (X : Image) : Type 0 where
  pub searchable : Searchable (suc level) p t X
  pub below : Below (entry_for t p X).child X
  pub carries : edge ≡ true
      → Carriable level p (index_of t (entries X p)) (heal_page half (combine kind) edge t level (entry_for t p X).child X)
  pub rebalances : RebalanceableIfShort half level p (index_of t (entries X p)) (entry_for t p X).child
      (carry edge t (suc level) p (index_of t (entries X p))
      (heal_page half (combine kind) edge t level (entry_for t p X).child X))

-- page p of the level named; a leaf can be searched
unfoldable pub PageHealable : ℕ → ℕ → Bool → ℕ → ℕ → ℕ → Image → Type 0
PageHealable half kind edge t zero p X = Searchable zero p t X
PageHealable half kind edge t (suc l) p X =
    InnerHealable half kind edge t l p (λ q Y. PageHealable half kind edge t l q Y) X

-- "An inner root with one entry combines its pair into its child's entries, is given back, and the child becomes root."
pub record Collapsible (X : Image) : Type 0 where
  pub inner : 1 < X.head.height
  pub root : HasEntry (X.head.height - 1) X.head.root 0 X
  pub child : PushReady (X.head.height - 2) (at (entries X X.head.root) 0) X
  pub room : ChainRoom X

-- the root can be read, and can go if it is such a one
pub record CollapsibleIfSingle (X : Image) : Type 0 where
  pub root : TreePage (X.head.height - 1) X.head.root X
  pub collapses : 1 < X.head.height → length (entries X X.head.root) ≡ 1 → Collapsible X

-- "Heal at t": for kind 1 the totals on both sides can be compared where the ways part, which tells whether an edge joins; then from the
-- root down; and then the root may collapse
pub record Healable (half kind t : ℕ) (X : Image) : Type 0 where
  pub some : 1 ≤ X.head.height
  pub joins : joins_edge (combine kind) t X ≡ (eqb kind 1 && edge_met (combine kind) t (X.head.height - 1) X.head.root X)
  pub readable : eqb kind 1 ≡ true → EdgeReadable (combine kind) t (X.head.height - 1) X.head.root X
  pub page : PageHealable half kind (joins_edge (combine kind) t X) t (X.head.height - 1) X.head.root X
  pub collapses :
      CollapsibleIfSingle
      (heal_page half (combine kind) (joins_edge (combine kind) t X) t (X.head.height - 1) X.head.root X)
