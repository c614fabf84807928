-- The pairs on every path of the tree that is loaded keep their bounds. Assumes nothing.
use Prim.Native.Nat.{ℕ, zero, suc, ◌+◌, ◌-◌, ◌*◌, ◌≤◌, ◌<◌}
use mathlib.Core.Path.{◌≡◌, refl}
use mathlib.Core.Bool.{true, false}
use mathlib.Core.List.{List}
use native.Mathlib.Omega.{arith}
use lib.Dec.{eqb}
use lib.IntN.{nat_abs}
use Rattle.lists.specs.Lists.{All}
use Rattle.rule.specs.declared.Pair.{Pair}
use Rattle.rule.specs.Time.{most_value}
use Rattle.page.specs.declared.Head.{Head}
use Rattle.page.specs.Layout.{entry_count, pair_at, child_at, entry_at}
use Rattle.page.specs.Fit.{PageContext, root_context, context_below}
use Rattle.image.specs.Images.{page_at}
use Rattle.image.specs.Sound.{tree_fit}
use Rattle.tree.specs.Conserved.{PathBounded}
use Rattle.fit.proofs.Laws.Pages.{PageFit, Paired}
use Rattle.soundness.proofs.Tree.{tree_parts, tree_top}
use Rattle.soundness.proofs.Sound.{the_head, FitImage}
use Rattle.invariant.specs.Invariant.{AnyPair, ValueOrNone, Bounds}
use Rattle.invariant.proofs.From.Listed.{all_listed}
use Rattle.invariant.proofs.From.Load.{loaded, load, load_listed, tree_in}

-- What the tests of a page's pairs say of a measure: acc is what the pairs above the page add to.
record Measured (half : ℕ) (h : Head) (norm : Pair → ℕ) (Each : Pair → Type 0) (most : ℕ) (acc : PageContext → ℕ) : Type 0 where
  here : (at : PageContext) (p : Pair) → Paired h at p → Each p × (acc at + norm p ≤ most)
  deeper : (s : List ℕ) (at : PageContext) (i : ℕ) → acc (context_below half s at i) ≡ acc at + norm (pair_at half s i)

module _ (half : ℕ) (h : Head) (img : List ℕ) (norm : Pair → ℕ) (Each : Pair → Type 0) (most : ℕ) (acc : PageContext → ℕ)
    (w : Measured half h norm Each most acc) where
  pair_here : (at : PageContext) (s : List ℕ) → PageFit half h at s → (i : ℕ) → i < entry_count s
      → Each (pair_at half s i) × (acc at + norm (pair_at half s i) ≤ most)
  pair_here at s f i m = w.here at (pair_at half s i) (f.pairs i m)

  tree_within : (l : ℕ) (at : PageContext) (p : ℕ) → tree_fit half h img l at p ≡ true
      → All (PathBounded norm Each most l (acc at)) (load half img l p)
  unfolding PathBounded entry_at
  tree_within zero at p t =
      let f : PageFit half h at (page_at half img p) = tree_top half h img zero at p t in
      rw (load_listed half img zero p f.most) (all_listed (loaded half img zero) _ _ (λ i m. pair_here at (page_at half img p) f i m))
  tree_within (suc l) at p t =
      let k = tree_parts half h img l at p t in
      let s : List ℕ = page_at half img p in
      rw (load_listed half img (suc l) p k.0.most)
      (all_listed (loaded half img (suc l)) (λ i. entry_at half s i) (entry_count s)
      (λ i m.
      let e = pair_here at s k.0 i m in
      (e.0, e.1, rw (w.deeper s at i) at (tree_within l (context_below half s at i) (child_at half s i) (k.1 i m)))))

-- ---- the three measures

module _ (half : ℕ) (h : Head) where
  sums : eqb h.kind 1 ≡ true → Measured half h (λ p. nat_abs p.sum) AnyPair (most_value * h.changes) (λ at. at.sums)
  unfolding context_below
  sums k = record { here = λ at p e. (tt, (e.total k).sums); deeper = λ s at i. refl }

  counts : eqb h.kind 1 ≡ true → Measured half h (λ p. nat_abs p.count) AnyPair h.changes (λ at. at.counts)
  unfolding context_below
  counts k = record { here = λ at p e. (tt, (e.total k).counts); deeper = λ s at i. refl }

  values : eqb h.kind 1 ≡ false → Measured half h (λ p. 0) ValueOrNone 0 (λ at. 0)
  values k = record { here = λ at p e. (e.mark k, omega arith); deeper = λ s at i. refl }

pub tree_bounds : (half : ℕ) (img : List ℕ) → FitImage half img
    → Bounds (the_head half img).kind (the_head half img).changes (tree_in half img)
unfolding root_context
tree_bounds half img f =
    let h : Head = the_head half img in
    record {
      sums = λ k. tree_within half h img _ _ _ _ (sums half h k) (h.height - 1) (root_context h) h.root f.tree;
      counts = λ k. tree_within half h img _ _ _ _ (counts half h k) (h.height - 1) (root_context h) h.root f.tree;
      values = λ k. tree_within half h img _ _ _ _ (values half h k) (h.height - 1) (root_context h) h.root f.tree;
    }
