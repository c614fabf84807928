-- Step C on trees: what `Rattle.steps.specs.Combine` does to the tree that the image shows. Assumes nothing.
use Rattle.std.specs.Prelude.{ℕ, zero, suc, cond, List, [], ◌∷◌}
use Rattle.rule.specs.declared.Pair.{Pair}
use Rattle.rule.specs.Time.{END, overlaps}
use Rattle.steps.specs.Combine.{inside, next_start, took}
use Rattle.tree.specs.Tree.{Node, Subtree, Nodes, flat}
use Rattle.tree.specs.Cut.{State}

-- f of each entry and its end
unfoldable pub with_ends : {A : Type 0} → (ℕ → Node A → Node A) → ℕ → List (Node A) → List (Node A)
with_ends f hi [] = []
with_ends f hi (x ∷ xs) = f (next_start hi (flat xs)) x ∷ with_ends f hi xs

module _ (◌⊕◌ : Pair → Pair → Pair) (s e : ℕ) (effect : Pair) where
  unfoldable pub combine_node : (l : ℕ) → ℕ → Node (Subtree l) → Node (Subtree l)
  combine_node zero hi x = record { entry = took ◌⊕◌ s e effect hi x.entry; subtree = tt }
  combine_node (suc l) hi x =
      let below = with_ends (λ h y. combine_node l h y) hi x.subtree in
      record {
        entry = took ◌⊕◌ s e effect hi x.entry;
        subtree = cond (inside s e x.entry.start hi) x.subtree (cond (overlaps s e x.entry.start hi) below x.subtree);
      }

  unfoldable pub combine_nodes : (l : ℕ) → ℕ → Nodes l → Nodes l
  combine_nodes l hi es = with_ends (λ h y. combine_node l h y) hi es

  unfoldable pub combine_span : State → State
  combine_span Y =
      let T = Y.tree in
      record {
        tree = record { level = T.level; root = T.root; nodes = combine_nodes T.level END T.nodes };
        supply = Y.supply;
      }
