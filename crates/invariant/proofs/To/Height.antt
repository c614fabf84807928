-- How high a tree is at the most: its pages are the image's. Assumes nothing.
use Prim.Native.Nat.{ℕ, ◌≤◌}
use native.Mathlib.Omega.{arith}
use Rattle.page.specs.Fit.{most_height}
use Rattle.image.specs.Images.{Image}
use Rattle.tree.specs.Cut.{State}
use Rattle.tree.proofs.Conservation.Height.{level_low}
use Rattle.refinement.proofs.Stepped.{once_is}
use Rattle.invariant.specs.Invariant.{Structure}
use Rattle.invariant.proofs.To.Known.{structure_once}

module _ {half kind changes : ℕ} (X : Image) (Y : State) (g : Structure half kind changes X Y) where
  mark_most : Y.supply.mark ≤ 1024
  mark_most = omega (arith, g.shown.supplied.mark, g.ranges.mark_most, g.ranges.pages_most)

  -- whatever the capacity of its pages
  pub height_most : 2 ≤ half → X.head.height ≤ most_height
  height_most two = omega (arith, g.shown.height, level_low two Y g.formed (once_is Y (structure_once g)) g.head_apart mark_most)
