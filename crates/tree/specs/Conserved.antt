-- What a change neither makes nor loses: every page is held once, by the tree, by the chain or by what was never used. And what bounds
-- the pairs on every path. Assumes nothing.
use Rattle.std.specs.Prelude.{ℕ, zero, suc, ◌+◌, ◌≤◌, ◌≡◌, cond, [], ◌∷◌, leb}
use Rattle.rule.specs.declared.Pair.{Pair}
use Rattle.rule.specs.Pairs.{none}
use Rattle.lists.specs.Lists.{times}
use Rattle.tree.specs.Tree.{Node, Subtree, Nodes, pages_under}
use Rattle.lists.specs.Lists.{concat_map, All}
use Rattle.tree.specs.Supply.{Supply}
use Rattle.tree.specs.Cut.{State}

-- how often a list of entries has page p below it
unfoldable pub times_below : (l : ℕ) → ℕ → Nodes l → ℕ
times_below l p es = times p (concat_map (λ x. pages_under l x) es)

-- how often a supply has page p: in the chain, or once from the high mark on
unfoldable pub times_spare : ℕ → Supply → ℕ
times_spare p S = times p S.chain + cond (leb S.mark p) 1 0

-- how often page p is held: as the root, below it, or in the supply
unfoldable pub held : ℕ → State → ℕ
held p Y =
    times p (Y.tree.root ∷ []) + (times_below Y.tree.level p Y.tree.nodes + times_spare p Y.supply)

-- A measure of pairs and what is asked of each: for kind 1 an absolute value and nothing, for kinds 2 and 3 zero and a value or none.
pub record NormLaws (◌⊕◌ : Pair → Pair → Pair) (norm : Pair → ℕ) (Each : Pair → Type 0) : Type 0 where
  pub norm_none : norm none ≡ 0
  pub norm_sum : (p q : Pair) → norm (◌⊕◌ p q) ≤ norm p + norm q
  pub each_none : Each none
  pub each_sum : (p q : Pair) → Each p → Each q → Each (◌⊕◌ p q)

module _ (norm : Pair → ℕ) (Each : Pair → Type 0) (most : ℕ) where
  -- each pair from here down is Each, and with the measures of the pairs above they add to no more than most on any path
  unfoldable pub PathBounded : (l : ℕ) → ℕ → Node (Subtree l) → Type 0
  PathBounded zero above x = Each x.entry.pair × (above + norm x.entry.pair ≤ most)
  PathBounded (suc l) above x =
      Each x.entry.pair
      × (above + norm x.entry.pair ≤ most)
      × All (λ y. PathBounded l (above + norm x.entry.pair) y) x.subtree
