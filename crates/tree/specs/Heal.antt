-- The heal at t, on trees: what `Rattle.steps.specs.Heal` does to the tree that the image shows. Assumes nothing.
use Rattle.std.specs.Prelude.{ℕ, zero, suc, ◌-◌, Bool, cond, ◌&&◌, ◌||◌, List, [], ◌∷◌, ◌++◌, map, length, take, drop, get_or, eqb, ltb}
use Rattle.rule.specs.declared.Pair.{Pair}
use Rattle.rule.specs.Pairs.{none, same_pair}
use Rattle.page.specs.Entries.{entry, at, index_of}
use Rattle.lists.specs.Lists.{splice}
use Rattle.steps.specs.Heal.{heals, carried, sibling, left_of}
use Rattle.tree.specs.Tree.{Node, Subtree, Nodes, no_node, flat, node_of, Tree, pair_at}
use Rattle.tree.specs.Supply.{Supply, with_page}
use Rattle.tree.specs.Cut.{State}

pub record Healing (A : Type 0) : Type 0 where
  pub nodes : List (Node A)
  pub supply : Supply

module _ (◌⊕◌ : Pair → Pair → Pair) where
  infixl 60 ◌⊕◌
  -- p combined into all entries
  unfoldable pub push_nodes : {A : Type 0} → Pair → List (Node A) → List (Node A)
  push_nodes p es = map (λ x. record { entry = entry x.entry.start (p ⊕ x.entry.pair) x.entry.child; subtree = x.subtree }) es

  unfoldable pub pushed : {A : Type 0} → Node (List (Node A)) → List (Node A)
  pushed x = push_nodes x.entry.pair x.subtree

  -- all entries below a and b
  unfoldable pub joint : {A : Type 0} → Node (List (Node A)) → Node (List (Node A)) → List (Node A)
  joint a b = pushed a ++ pushed b

  -- the same child from another start, with nothing of its own, and these entries below
  unfoldable pub emptied : {A : Type 0} → ℕ → Node (List (Node A)) → List (Node A) → Node (List (Node A))
  emptied start x es = record { entry = entry start none x.entry.child; subtree = es }

  unfoldable pub redistribute : (l : ℕ) → ℕ → ℕ → Nodes (suc l) → Nodes (suc l)
  redistribute l i k es =
      let a = get_or es i (no_node (suc l)) in
      let b = get_or es (suc i) (no_node (suc l)) in
      let left = take k (joint a b) in
      let right = drop k (joint a b) in
      splice i (emptied a.entry.start a left ∷ [])
      (splice (suc i) (emptied (at (flat right) 0).start b right ∷ []) es)

  unfoldable pub merge : (l : ℕ) → ℕ → Nodes (suc l) → Nodes (suc l)
  merge l i es =
      let a = get_or es i (no_node (suc l)) in
      let b = get_or es (suc i) (no_node (suc l)) in
      splice i (emptied a.entry.start a (joint a b) ∷ []) (splice (suc i) [] es)

-- t starts the leaf on the way to it
unfoldable pub starts_leaf : ℕ → (l : ℕ) → Nodes l → Bool
starts_leaf t zero es = eqb (at (flat es) 0).start t
starts_leaf t (suc l) es = starts_leaf t l (node_of (suc l) t es).subtree

-- whether the entry goes that is first in its page; `totals` is whether the kind is 1
unfoldable pub joins_edge : (Pair → Pair → Pair) → Bool → ℕ → Tree → Bool
joins_edge ◌⊕◌ totals t T =
    totals
    && (ltb 0 t
    && (starts_leaf t T.level T.nodes && same_pair (pair_at ◌⊕◌ T t) (pair_at ◌⊕◌ T (t - 1))))

module _ (half : ℕ) (◌⊕◌ : Pair → Pair → Pair) where
  unfoldable pub rebalance : (l : ℕ) → ℕ → Nodes (suc l) → Supply → Healing (Subtree (suc l))
  rebalance l i es S =
      let n = length (get_or es (sibling i) (no_node (suc l))).subtree in
      let k = cond (eqb i 0) half (n - 1) in
      let b = get_or es (suc (left_of i)) (no_node (suc l)) in
      let gives : Healing (Subtree (suc l)) = record { nodes = redistribute ◌⊕◌ l (left_of i) k es; supply = S } in
      let joins : Healing (Subtree (suc l)) =
      record { nodes = merge ◌⊕◌ l (left_of i) es; supply = with_page b.entry.child S } in
      cond (ltb half n) gives joins

  unfoldable pub heal_nodes : Bool → ℕ → (l : ℕ) → Nodes l → Supply → Healing (Subtree l)
  heal_nodes edge t zero es S =
      let i = index_of t (flat es) in
      record { nodes = cond (edge || heals t (flat es) i) (splice i [] es) es; supply = S }
  heal_nodes edge t (suc l) es S =
      let i = index_of t (flat es) in
      let x = get_or es i (no_node (suc l)) in
      let r = heal_nodes edge t l x.subtree S in
      let healed = splice i (record { entry = carried edge t (flat r.nodes) x.entry; subtree = r.nodes } ∷ []) es in
      cond (ltb (length r.nodes) half) (rebalance l i healed r.supply) (record { nodes = healed; supply = r.supply })

  -- an inner root with one entry goes
  unfoldable pub collapse_if_single : (l root : ℕ) → Nodes l → Supply → State
  collapse_if_single zero root es S = record { tree = record { level = zero; root = root; nodes = es }; supply = S }
  collapse_if_single (suc l) root es S =
      let x = get_or es 0 (no_node (suc l)) in
      let collapsed : State =
      record { tree = record { level = l; root = x.entry.child; nodes = pushed ◌⊕◌ x }; supply = with_page root S } in
      let same : State = record { tree = record { level = suc l; root = root; nodes = es }; supply = S } in
      cond (eqb (length es) 1) collapsed same

  unfoldable pub heal : Bool → ℕ → State → State
  heal totals t Y =
      let T = Y.tree in
      let r = heal_nodes (joins_edge ◌⊕◌ totals t T) t T.level T.nodes Y.supply in
      collapse_if_single T.level T.root r.nodes r.supply
