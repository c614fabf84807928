-- How much a heal takes from a page and gives to the chain: an entry of each page at the most, and a page for each level. True of the
-- definitions alone. Assumes nothing.
use Prim.Native.Nat.{ℕ, zero, suc, ◌+◌, ◌≤◌}
use mathlib.Core.Bool.{Bool, ◌||◌}
use mathlib.Core.List.{List, [], ◌∷◌}
use native.Mathlib.Omega.{arith}
use lib.Dec.{ltb}
use lib.ListN.{length, length-append}
use Rattle.lists.specs.Lists.{splice}
use Rattle.lists.proofs.Choices.{either}
use Rattle.rule.specs.declared.Pair.{Pair}
use Rattle.page.specs.Entries.{index_of}
use Rattle.steps.specs.Heal.{heals, carried, sibling, left_of}
use Rattle.tree.specs.Tree.{Node, Subtree, Nodes, flat}
use Rattle.tree.specs.Supply.{Supply, with_page}
use Rattle.tree.specs.Heal.{Healing, redistribute, merge, rebalance, heal_nodes}
use Rattle.refinement.proofs.Below.{node_at}

-- entries in the place of one take no more than it
splice_loses : {A : Type 0} (i : ℕ) (xs es : List A) → length es + length xs ≤ suc (length (splice i xs es))
unfolding splice
splice_loses zero xs [] = omega (arith, length-append xs [])
splice_loses (suc i) xs [] = omega (arith, length-append xs [])
splice_loses zero xs (e ∷ es) = omega (arith, length-append xs es)
splice_loses (suc i) xs (e ∷ es) = omega (arith, splice_loses i xs es)

-- nor do two siblings that become one or two
two_lose : {A : Type 0} (i : ℕ) (x : A) (ys es : List A) → length es ≤ suc (length (splice i (x ∷ []) (splice (suc i) ys es)))
two_lose i x ys es = omega (arith, splice_loses i (x ∷ []) (splice (suc i) ys es), splice_loses (suc i) ys es)

module _ (half : ℕ) (◌⊕◌ : Pair → Pair → Pair) where
  -- ---- the entries

  rebalance_loses : (l i : ℕ) (es : Nodes (suc l)) (S : Supply) → length es ≤ suc (length (rebalance half ◌⊕◌ l i es S).nodes)
  unfolding rebalance redistribute merge
  rebalance_loses l i es S =
      either (λ (r : Healing (Subtree (suc l))). length es ≤ suc (length r.nodes))
      (two_lose (left_of i) _ (_ ∷ []) es) (two_lose (left_of i) _ [] es)
      (ltb half (length (node_at (suc l) es (sibling i)).subtree))

  pub heal_loses : (edge : Bool) (t l : ℕ) (es : Nodes l) (S : Supply)
      → length es ≤ suc (length (heal_nodes half ◌⊕◌ edge t l es S).nodes)
  unfolding heal_nodes
  heal_loses edge t zero es S =
      let i = index_of t (flat es) in
      either (λ (fs : Nodes 0). length es ≤ suc (length fs)) (omega (arith, splice_loses i [] es)) (omega arith)
      (edge || heals t (flat es) i)
  heal_loses edge t (suc l) es S =
      let i = index_of t (flat es) in
      let x = node_at (suc l) es i in
      let r = heal_nodes half ◌⊕◌ edge t l x.subtree S in
      let y : Node (Subtree (suc l)) = record { entry = carried edge t (flat r.nodes) x.entry; subtree = r.nodes } in
      let healed = splice i (y ∷ []) es in
      let long : length es ≤ length healed = omega (arith, splice_loses i (y ∷ []) es) in
      either (λ (u : Healing (Subtree (suc l))). length es ≤ suc (length u.nodes))
      (omega (arith, rebalance_loses l i healed r.supply)) (omega arith)
      (ltb (length r.nodes) half)

  -- ---- the chain

  rebalance_chain : (l i : ℕ) (es : Nodes (suc l)) (S : Supply)
      → length (rebalance half ◌⊕◌ l i es S).supply.chain ≤ suc (length S.chain)
  unfolding rebalance with_page
  rebalance_chain l i es S =
      either (λ (r : Healing (Subtree (suc l))). length r.supply.chain ≤ suc (length S.chain)) (omega arith) (omega arith)
      (ltb half (length (node_at (suc l) es (sibling i)).subtree))

  pub heal_chain : (edge : Bool) (t l : ℕ) (es : Nodes l) (S : Supply)
      → length (heal_nodes half ◌⊕◌ edge t l es S).supply.chain ≤ l + length S.chain
  unfolding heal_nodes
  heal_chain edge t zero es S = omega arith
  heal_chain edge t (suc l) es S =
      let i = index_of t (flat es) in
      let x = node_at (suc l) es i in
      let r = heal_nodes half ◌⊕◌ edge t l x.subtree S in
      let h : length r.supply.chain ≤ l + length S.chain = heal_chain edge t l x.subtree S in
      let y : Node (Subtree (suc l)) = record { entry = carried edge t (flat r.nodes) x.entry; subtree = r.nodes } in
      either (λ (u : Healing (Subtree (suc l))). length u.supply.chain ≤ suc l + length S.chain)
      (omega (arith, rebalance_chain l i (splice i (y ∷ []) es) r.supply)) (omega arith)
      (ltb (length r.nodes) half)
