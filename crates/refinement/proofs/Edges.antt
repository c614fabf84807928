-- Whether an edge joins is told of an image as of the tree that it shows. Assumes nothing.
use Prim.Native.Nat.{ℕ, zero, suc, ◌-◌}
use mathlib.Core.Path.{◌≡◌, ap, ◌∙◌}
use mathlib.Core.List.{List}
use lib.Dec.{eqb}
use Rattle.rule.specs.declared.Pair.{Pair}
use Rattle.page.specs.declared.Entry.{Entry}
use Rattle.page.specs.Entries.{at, index_of}
use Rattle.image.specs.Images.{Image}
use Rattle.steps.specs.Supply.{entries}
use Rattle.steps.specs.Heal.{starts_leaf as starts_leaf_x, total_from, joins_edge as joins_edge_x}
use Rattle.tree.specs.Tree.{Node, Subtree, flat, node_of, pair_under, pair_in}
use Rattle.tree.specs.Cut.{State, root_node}
use Rattle.tree.specs.Heal.{starts_leaf, joins_edge}
use Rattle.refinement.specs.Represents.{Stores, Represents, Stocked, Full}
use Rattle.refinement.proofs.Paths.{entries_are, at_flat, there, stocked_on, stores_on, from_root}

-- the entry that has t, in the page under x
pub entry_there : (t l : ℕ) (X : Image) (x : Node (Subtree (suc l))) → Stores (suc l) X.page x
    → at (entries X x.entry.child) (index_of t (entries X x.entry.child)) ≡ (there l t x.subtree).entry
entry_there t l X x s = rw (entries_are l X x s) (at_flat l x.subtree (index_of t (flat x.subtree)))

pub starts_leaf_is : (t l : ℕ) (X : Image) (x : Node (Subtree (suc l))) → Stocked (suc l) x → Stores (suc l) X.page x
    → starts_leaf_x t l x.entry.child X ≡ starts_leaf t l x.subtree
unfolding starts_leaf_x starts_leaf node_of
starts_leaf_is t zero X x k s = ap (λ (es : List Entry). eqb (at es 0).start t) (entries_are 0 X x s)
starts_leaf_is t (suc l) X x k s =
    ap (λ (e : Entry). starts_leaf_x t l e.child X) (entry_there t (suc l) X x s)
    ∙ starts_leaf_is t l X (there (suc l) t x.subtree) (stocked_on (suc l) t x k) (stores_on (suc l) t x k X s)

module _ (◌⊕◌ : Pair → Pair → Pair) where
  infixl 60 ◌⊕◌
  pub total_is : (t l : ℕ) (X : Image) (x : Node (Subtree (suc l))) → Stocked (suc l) x → Stores (suc l) X.page x
      → total_from ◌⊕◌ t l x.entry.child X ≡ pair_in ◌⊕◌ l t x.subtree
  unfolding total_from pair_in pair_under node_of
  total_is t zero X x k s = ap (λ (e : Entry). e.pair) (entry_there t 0 X x s)
  total_is t (suc l) X x k s =
      let y = there (suc l) t x.subtree in
      ap (λ (e : Entry). e.pair ⊕ total_from ◌⊕◌ t l e.child X) (entry_there t (suc l) X x s)
      ∙ ap (λ (p : Pair). y.entry.pair ⊕ p) (total_is t l X y (stocked_on (suc l) t x k) (stores_on (suc l) t x k X s))

  -- from the root
  pub joins_edge_is : (t : ℕ) (X : Image) (Y : State) → Represents X Y → Full Y
      → joins_edge_x ◌⊕◌ t X ≡ joins_edge ◌⊕◌ (eqb X.head.kind 1) t Y.tree
  unfolding joins_edge_x joins_edge root_node Full
  joins_edge_is t X Y sh k =
      let l = Y.tree.level in
      let x = root_node Y.tree in
      rw (
        from_root sh (λ n p. starts_leaf_x t n p X),
        from_root sh (λ n p. total_from ◌⊕◌ t n p X),
        from_root sh (λ n p. total_from ◌⊕◌ (t - 1) n p X),
        starts_leaf_is t l X x k sh.below,
        total_is t l X x k sh.below,
        total_is (t - 1) l X x k sh.below,
      )
