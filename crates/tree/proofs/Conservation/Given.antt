-- The pages that a heal gives back: they stand before the chain as it was, and the high mark stays. Assumes nothing.
use Prim.Native.Nat.{ℕ, zero, suc}
use mathlib.Core.Path.{◌≡◌, refl, ap}
use mathlib.Core.Bool.{Bool}
use mathlib.Core.List.{List, [], ◌∷◌, ◌++◌}
use lib.Dec.{eqb, ltb}
use lib.ListN.{length, get_or}
use Rattle.lists.proofs.Choices.{either}
use Rattle.rule.specs.declared.Pair.{Pair}
use Rattle.page.specs.Entries.{index_of}
use Rattle.steps.specs.Heal.{sibling}
use Rattle.tree.specs.Tree.{Subtree, Nodes, no_node, flat}
use Rattle.tree.specs.Supply.{Supply, with_page}
use Rattle.tree.specs.Cut.{State}
use Rattle.tree.specs.Heal.{Healing, joins_edge, rebalance, heal_nodes, collapse_if_single, heal}

-- T is S with pages given back
pub record Gave (S T : Supply) : Type 0 where
  pub given : List ℕ
  pub chain : T.chain ≡ given ++ S.chain
  pub mark : T.mark ≡ S.mark

gave_page : {S T : Supply} (p : ℕ) → Gave S T → Gave S (with_page p T)
unfolding with_page
gave_page p g = record { given = p ∷ g.given; chain = ap (λ ps. p ∷ ps) g.chain; mark = g.mark }

module _ (half : ℕ) (◌⊕◌ : Pair → Pair → Pair) where
  rebalance_gave : {R : Supply} (l i : ℕ) (es : Nodes (suc l)) (S : Supply) → Gave R S → Gave R (rebalance half ◌⊕◌ l i es S).supply
  unfolding rebalance
  rebalance_gave {R} l i es S g =
      either (λ (H : Healing (Subtree (suc l))). Gave R H.supply) g (gave_page _ g)
      (ltb half (length (get_or es (sibling i) (no_node (suc l))).subtree))

  nodes_gave : (edge : Bool) (t l : ℕ) (es : Nodes l) (S : Supply) → Gave S (heal_nodes half ◌⊕◌ edge t l es S).supply
  unfolding heal_nodes
  nodes_gave edge t zero es S = record { given = []; chain = refl; mark = refl }
  nodes_gave edge t (suc l) es S =
      let x = get_or es (index_of t (flat es)) (no_node (suc l)) in
      let g = nodes_gave edge t l x.subtree S in
      either (λ (H : Healing (Subtree (suc l))). Gave S H.supply) (rebalance_gave l (index_of t (flat es)) _ _ g) g
      (ltb (length (heal_nodes half ◌⊕◌ edge t l x.subtree S).nodes) half)

  collapsed_gave : {R : Supply} (l root : ℕ) (es : Nodes l) (S : Supply) → Gave R S
      → Gave R (collapse_if_single half ◌⊕◌ l root es S).supply
  unfolding collapse_if_single
  collapsed_gave zero root es S g = g
  collapsed_gave {R} (suc l) root es S g = either (λ (Z : State). Gave R Z.supply) (gave_page root g) g (eqb (length es) 1)

pub heal_gives : (half : ℕ) (◌⊕◌ : Pair → Pair → Pair) (totals : Bool) (t : ℕ) (Y : State)
    → Gave Y.supply (heal half ◌⊕◌ totals t Y).supply
unfolding heal
heal_gives half ◌⊕◌ totals t Y =
    collapsed_gave half ◌⊕◌ Y.tree.level Y.tree.root _ _
    (nodes_gave half ◌⊕◌ (joins_edge ◌⊕◌ totals t Y.tree) t Y.tree.level Y.tree.nodes Y.supply)
