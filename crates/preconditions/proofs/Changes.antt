-- An image that no row turns back can be changed: every step finds the image that the one before left ready for it. Assumes nothing.
use Prim.Native.Nat.{ℕ, ◌<◌, ◌≤◌}
use mathlib.Core.Path.{◌≡◌}
use mathlib.Core.Bool.{false}
use native.Mathlib.Omega.{arith}
use Rattle.rule.specs.declared.Pair.{Pair}
use Rattle.rule.specs.Bounds.{Effective}
use Rattle.page.specs.Fit.{most_changes}
use Rattle.image.specs.Images.{Image}
use Rattle.steps.specs.Change.{lacks_pages}
use Rattle.tree.specs.Cut.{State}
use Rattle.invariant.specs.Invariant.{Invariant}
use Rattle.change.specs.Changeable.{task, Changeable}
use Rattle.preconditions.proofs.Cuts.{structure_cuttable}
use Rattle.invariant.proofs.Change.{before_b, before_c, before_d, before_e, steady_five}
use Rattle.preconditions.proofs.Combines.{span_combinable}
use Rattle.preconditions.proofs.Heals.{structure_healable}

module _ {half : ℕ} (two : 2 ≤ half) (s e : ℕ) (p : Pair) {X : Image} {Y : State} (g : Invariant half X Y) (f : Effective X.head.kind p)
    (few : X.head.changes < most_changes) (enough : lacks_pages half s e X ≡ false) where
  pub changeable : Changeable half X.head.kind s e p X
  changeable =
      let b = before_b two s e p g f few enough in
      let c = before_c two s e p g f few enough in
      record {
        for_a = structure_cuttable two s X Y g.structure b;
        for_b = structure_cuttable two e _ _ b c;
        for_c = span_combinable (task X.head.kind s e p) f c;
        for_d = structure_healable two s (before_d two s e p g f few enough);
        for_e = structure_healable two e (before_e two s e p g f few enough);
        for_count = record { room = omega (arith, few, (steady_five two s e p g f few enough).changes) };
      }
