-- The cells of a tree's pages are kept: their bytes are those of a page and are read back. Assumes nothing.
use Prim.Native.Nat.{ℕ, zero, suc, ◌+◌, ◌≤◌, ◌<◌}
use mathlib.Core.Path.{◌≡◌}
use native.Mathlib.Omega.{arith}
use native.Mathlib.Decide.{dec_le}
use lib.ListN.{length, length-map}
use Rattle.lists.specs.Lists.{hit}
use Rattle.lists.proofs.Totals.{hit_is}
use Rattle.rule.specs.Time.{END}
use Rattle.page.specs.declared.Head.{Head}
use Rattle.page.specs.Layout.{free_level}
use Rattle.page.specs.Fit.{most_changes}
use Rattle.image.specs.Images.{Cell, Canonical}
use Rattle.lists.specs.Lists.{times}
use Rattle.image.proofs.Cells.{canonical_tree}
use Rattle.tree.specs.Tree.{Node, Subtree, Nodes, flat, pages_under}
use Rattle.tree.specs.Shape.{Asked, Seg, done, more}
use Rattle.tree.specs.Conserved.{times_below}
use Rattle.refinement.proofs.Below.{under_zero, under_suc, below_none, below_cons}
use Rattle.invariant.specs.Invariant.{Ranges}
use Rattle.invariant.proofs.To.Ready.{seg_length, Paged, Ready, entries_fit}

-- what follows from the one entry that a page is below
seg_below : (l : ℕ) {Q : Asked (Subtree l)} {lo hi : ℕ} {es : Nodes l} (p : ℕ) {G : Type 0}
    → ((a b : ℕ) (x : Node (Subtree l)) → b ≤ hi → Q a b x → 1 ≤ times p (pages_under l x) → G) → Seg Q lo hi es
    → 1 ≤ times_below l p es → G
seg_below l p f done n = absurd (omega (arith, below_none l p))
seg_below l {Q} {hi = hi} p {G} f (more {lo} {mid} {x = x} {es = es} e lt q r) n =
    go (dec_le 1 (times p (pages_under l x))) (seg_below l p f r)
  where
    go : Dec (1 ≤ times p (pages_under l x)) → (1 ≤ times_below l p es → G) → G
    go (yes m) later = f lo mid x (omega (arith, seg_length r)) q m
    go (no m) later = later (omega (arith, below_cons l p x es))

module _ (half : ℕ) (h : Head) (pages : ℕ → Cell) (ranges : Ranges half h) (few : h.changes ≤ most_changes) (p : ℕ) where
  kept_here : (l sums counts lo hi q : ℕ) (es : Nodes l) → hi ≤ END → l < free_level
      → Paged half h pages l (Ready half h pages l sums counts) lo hi q es
      → Canonical half (pages q)
  kept_here l sums counts lo hi q es m low P =
      let n : length (flat es) ≡ length es = length-map es (λ x. x.entry) in
      rw P.page
      (canonical_tree half l (flat es) (omega arith) (omega (arith, seg_length P.spans)) low
      (entries_fit half h pages ranges few l sums counts P.spans m))

  pub kept_page : (l sums counts lo hi q : ℕ) (es : Nodes l) → hi ≤ END → l < free_level
      → Paged half h pages l (Ready half h pages l sums counts) lo hi q es
      → ((a b : ℕ) (x : Node (Subtree l)) → b ≤ END → Ready half h pages l sums counts a b x → 1 ≤ times p (pages_under l x)
      → Canonical half (pages p))
      → 1 ≤ hit p q + times_below l p es → Canonical half (pages p)
  kept_page l sums counts lo hi q es m low P deeper n = go (dec_le 1 (hit p q))
    where
      go : Dec (1 ≤ hit p q) → Canonical half (pages p)
      go (yes k) = rw (hit_is p q k) (kept_here l sums counts lo hi q es m low P)
      go (no k) = seg_below l p (λ a b x j r t. deeper a b x (omega arith) r t) P.spans (omega arith)

  pub kept_under : (l sums counts lo hi : ℕ) (x : Node (Subtree l)) → hi ≤ END → l ≤ free_level
      → Ready half h pages l sums counts lo hi x → 1 ≤ times p (pages_under l x)
      → Canonical half (pages p)
  unfolding Ready
  kept_under zero sums counts lo hi x m low r n = absurd (omega (arith, under_zero p x))
  kept_under (suc l) sums counts lo hi x m low r n =
      kept_page l _ _ lo hi x.entry.child x.subtree m (omega arith) r.2
      (λ a b y k s t. kept_under l _ _ a b y k (omega arith) s t) (omega (arith, under_suc l p x))
