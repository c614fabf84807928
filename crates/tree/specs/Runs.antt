-- The leaf entries of a tree as a walk over all instants finds them: a run for each, with its total. Assumes nothing.
use Rattle.std.specs.Prelude.{ℕ, zero, suc, List, [], ◌∷◌, map}
use Rattle.lists.specs.Lists.{concat_map}
use Rattle.rule.specs.declared.Pair.{Pair}
use Rattle.image.specs.Listing.{Run}
use Rattle.tree.specs.Tree.{Node, Subtree, Nodes, Tree}

module _ (◌⊕◌ : Pair → Pair → Pair) where
  infixl 60 ◌⊕◌
  -- the runs below an entry, with the entry's pair combined into each
  unfoldable pub runs_under : (l : ℕ) → Node (Subtree l) → List Run
  runs_under zero x = record { start = x.entry.start; pair = x.entry.pair } ∷ []
  runs_under (suc l) x =
      map (λ r. record { start = r.start; pair = x.entry.pair ⊕ r.pair }) (concat_map (λ y. runs_under l y) x.subtree)

  unfoldable pub runs_in : (l : ℕ) → Nodes l → List Run
  runs_in l es = concat_map (λ x. runs_under l x) es

  abbrev pub runs_of : Tree → List Run
  runs_of T = runs_in T.level T.nodes
