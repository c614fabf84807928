-- The cut takes its pages in turn. Assumes nothing.
use Prim.Native.Nat.{ℕ, zero, suc}
use mathlib.Core.Path.{◌≡◌, refl, sym, ap, ◌∙◌}
use mathlib.Core.List.{[], ◌∷◌}
use lib.Dec.{eqb, leb}
use lib.ListN.{length, get_or}
use Rattle.lists.proofs.Choices.{either}
use Rattle.rule.specs.Time.{END}
use Rattle.page.specs.Layout.{capacity}
use Rattle.page.specs.Entries.{index_of}
use Rattle.lists.specs.Lists.{splice}
use Rattle.tree.specs.Tree.{Node, Subtree, Nodes, no_node, flat}
use Rattle.tree.specs.Supply.{Supply, without_next}
use Rattle.tree.specs.Cut.{Cutting, not_split, split, split_if_full, cut_node, State, root_node, grow_if_split, cut}
use Rattle.tree.specs.Counts.{later}
use Rattle.tree.proofs.Conservation.Supply.{later_more}

module _ (half t l : ℕ) (x : Node (Subtree (suc l))) (S : Supply) where
  -- what becomes of the entry below x that has t, and of all entries there
  abbrev pub inner : Cutting (Subtree l)
  inner = cut_node half t l (get_or x.subtree (index_of t (flat x.subtree)) (no_node l)) S

  abbrev pub inner_nodes : Nodes l
  inner_nodes = splice (index_of t (flat x.subtree)) inner.became x.subtree

  -- their page is kept or split
  pub cut_case : (Q : Cutting (Subtree (suc l)) → Type 0) → Q (not_split x inner_nodes inner.supply)
      → Q (split half x inner_nodes inner.supply)
      → Q (cut_node half t (suc l) x S)
  unfolding cut_node split_if_full
  cut_case Q k s = either Q k (either Q k s (leb (length inner_nodes) (capacity half))) (eqb (length inner.became) 1)

-- the pages are taken in turn
node_taken : (half t l : ℕ) (x : Node (Subtree l)) (S : Supply) → (k : ℕ) × ((cut_node half t l x S).supply ≡ later k S)
unfolding cut_node not_split split later
node_taken half t zero x S = (0, refl)
node_taken half t (suc l) x S =
    let h = node_taken half t l (get_or x.subtree (index_of t (flat x.subtree)) (no_node l)) S in
    cut_case half t l x S (λ C. (k : ℕ) × (C.supply ≡ later k S)) h (suc h.0, ap without_next h.1 ∙ sym (later_more h.0 _))

grown_taken : (l : ℕ) (zs : Nodes (suc l)) (R S : Supply) → (k : ℕ) × (S ≡ later k R) → (k : ℕ) × ((grow_if_split l zs S).supply ≡ later k R)
unfolding grow_if_split later
grown_taken l [] R S h = h
grown_taken l (y ∷ []) R S h = h
grown_taken l (y ∷ z ∷ zs) R S h = (suc h.0, ap without_next h.1 ∙ sym (later_more h.0 _))

pub cut_taken : (half t : ℕ) (Y : State) → (k : ℕ) × ((cut half t Y).supply ≡ later k Y.supply)
unfolding cut later
cut_taken half t Y =
    either (λ (Z : State). (k : ℕ) × (Z.supply ≡ later k Y.supply)) (0, refl)
    (grown_taken Y.tree.level _ Y.supply _ (node_taken half t (suc Y.tree.level) (root_node Y.tree) Y.supply))
    (leb END t)
