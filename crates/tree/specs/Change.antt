-- The five steps of a change, on trees: what `Rattle.steps.specs.Change` does to the tree that the image shows. Assumes nothing.
use Rattle.std.specs.Prelude.{ℕ, Bool}
use Rattle.rule.specs.declared.Pair.{Pair}
use Rattle.tree.specs.Cut.{State, cut}
use Rattle.tree.specs.Combine.{combine_span}
use Rattle.tree.specs.Heal.{heal}

unfoldable pub cuts : ℕ → ℕ → ℕ → State → State
cuts half s e Y = cut half e (cut half s Y)

-- `totals` is whether the kind is 1
unfoldable pub change : ℕ → (Pair → Pair → Pair) → Bool → ℕ → ℕ → Pair → State → State
change half ◌⊕◌ totals s e effect Y =
    heal half ◌⊕◌ totals e (heal half ◌⊕◌ totals s (combine_span ◌⊕◌ s e effect (cuts half s e Y)))
