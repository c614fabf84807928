-- The image as format leaves it shows a tree of one leaf entry. Assumes nothing.
use Prim.Native.Nat.{ℕ}
use mathlib.Core.Path.{refl}
use mathlib.Core.List.{[], ◌∷◌}
use native.Mathlib.Omega.{arith}
use borrow.Author.Tests.{ne_eqb}
use Rattle.lists.specs.Lists.{all_none, all_more}
use Rattle.rule.specs.Pairs.{none}
use Rattle.page.specs.Entries.{entry}
use Rattle.image.specs.Images.{fresh_page, fresh}
use Rattle.tree.specs.Cut.{State, root_node}
use Rattle.refinement.specs.Represents.{Stores, ends, Represents}
use Rattle.refinement.proofs.Stepped.{state}

abbrev pub fresh_state : State
fresh_state = state 0 1 (record { entry = entry 0 none 0; subtree = tt } ∷ []) (record { chain = []; mark = 2 })

pub fresh_represented : (pages kind window field : ℕ) → Represents (fresh pages kind window field) fresh_state
unfolding fresh fresh_page Stores root_node
fresh_represented pages kind window field =
    record {
      height = refl;
      root = refl;
      below = (refl, all_more tt all_none);
      supplied = record { length_true = refl; linked = ends; mark = refl; unused = λ p h k. rw (ne_eqb p 1 (λ e. omega arith)) };
    }
