-- What the bridge asks of a tree holds of every tree as sound images have it. Assumes nothing.
use Prim.Native.Nat.{ℕ, zero, suc, ◌≤◌}
use native.Mathlib.Omega.{arith}
use Rattle.tree.specs.Tree.{Node, Subtree}
use Rattle.tree.specs.Cut.{State, root_node}
use Rattle.tree.specs.Shape.{Shaped, Formed}
use Rattle.tree.proofs.Seg.{seg_all, seg_map, least_two}
use Rattle.refinement.specs.Represents.{Stocked, Full, Ordered, Gapless}

module _ (half : ℕ) (B : ℕ → ℕ → Node (Subtree 0) → Type 0) where
  shaped_stocked : 2 ≤ half → (l lo hi : ℕ) (x : Node (Subtree l)) → Shaped half B l lo hi x → Stocked l x
  unfolding Shaped Stocked
  shaped_stocked two zero lo hi x s = tt
  shaped_stocked two (suc l) lo hi x s =
      (omega (arith, least_two l, s.0.least), seg_all (λ a b y t. shaped_stocked two l a b y t) s.1)

  shaped_ordered : (l lo hi : ℕ) (x : Node (Subtree l)) → Shaped half B l lo hi x → Ordered l lo hi x
  unfolding Shaped Ordered
  shaped_ordered zero lo hi x s = tt
  shaped_ordered (suc l) lo hi x s = seg_map (λ a b y _ _ t. shaped_ordered l a b y t) s.1

  pub formed_full : 2 ≤ half → (Y : State) → Formed half B Y.tree → Full Y
  unfolding Full Stocked root_node
  formed_full two Y f =
      (f.least, seg_all (λ a b y t. shaped_stocked two Y.tree.level a b y t) f.spans)

  pub formed_gapless : (Y : State) → Formed half B Y.tree → Gapless Y
  unfolding Gapless Ordered root_node
  formed_gapless Y f = seg_map (λ a b y _ _ t. shaped_ordered Y.tree.level a b y t) f.spans
