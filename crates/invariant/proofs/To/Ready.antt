-- Entries that can be written: what tests of pages and widths ask of an entry and of all below it, in one place. Assumes nothing.
use Prim.Native.Nat.{ℕ, zero, suc, ◌+◌, ◌≤◌, ◌<◌}
use mathlib.Core.Path.{◌≡◌}
use mathlib.Core.Bool.{true, and-eq-true_iff}
use mathlib.Core.List.{List}
use native.Mathlib.Omega.{arith}
use lib.ListN.{length}
use lib.IntN.{nat_abs}
use borrow.Author.Tests.{eq-eqb, ne_eqb, le-leb, lt-ltb}
use Rattle.lists.specs.Lists.{All}
use Rattle.lists.proofs.All.{all_head, all_tail}
use Rattle.lists.proofs.Totals.{hit_self}
use Rattle.rule.specs.Time.{END}
use Rattle.page.specs.declared.Head.{Head}
use Rattle.page.specs.Layout.{capacity}
use Rattle.page.specs.Fit.{child_ok, most_changes}
use Rattle.page.specs.Widths.{EntryFits, EntriesFit}
use Rattle.page.proofs.Laws.Entries.{no_entry_fits}
use Rattle.image.specs.Images.{Cell, tree}
use Rattle.lists.specs.Lists.{times}
use Rattle.tree.specs.Tree.{Node, Subtree, Nodes, flat, pages_under}
use Rattle.tree.specs.Shape.{Asked, Seg, done, more, Shaped, Leaf}
use Rattle.tree.specs.Conserved.{times_below}
use Rattle.refinement.specs.Represents.{Stores}
use Rattle.refinement.proofs.Below.{under_suc, below_cons}
use Rattle.invariant.specs.Invariant.{Ranges}
use Rattle.invariant.proofs.To.Weights.{Weighed, weighed_below, pair_fits}

-- how many entries a span has room for
pub seg_length : {A : Type 0} {Q : Asked A} {lo hi : ℕ} {es : List (Node A)} → Seg Q lo hi es → lo + length es ≤ hi
seg_length done = omega arith
seg_length (more e lt q r) = omega (arith, seg_length r)

module _ (half : ℕ) (h : Head) (pages : ℕ → Cell) where
  -- Page p of the image has the entries es from lo to hi, each of which is Q.
  pub record Paged (l : ℕ) (Q : Asked (Subtree l)) (lo hi p : ℕ) (es : Nodes l) : Type 0 where
    pub least : 1 ≤ p
    pub below : p < h.pages
    pub page : pages p ≡ tree l (flat es)
    pub most : length es ≤ capacity half
    pub spans : Seg Q lo hi es

  -- An entry of level l from lo to hi, below pairs whose absolute sums and counts add to these.
  unfoldable pub Ready : (l sums counts : ℕ) → Asked (Subtree l)
  Ready zero sums counts lo hi x = Weighed h.kind h.changes zero sums counts x × (x.entry.child ≡ 0)
  Ready (suc l) sums counts lo hi x =
      Weighed h.kind h.changes (suc l) sums counts x
      × (half ≤ length x.subtree)
      × Paged l (Ready l (sums + nat_abs x.entry.pair.sum) (counts + nat_abs x.entry.pair.count)) lo hi x.entry.child
      x.subtree

  -- ---- every entry of a tree with the structure is ready

  pub seg_ready : (l : ℕ) (R : Asked (Subtree l)) (W : Node (Subtree l) → Type 0)
      → ((lo hi : ℕ) (x : Node (Subtree l)) → Shaped half Leaf l lo hi x → W x → Stores l pages x
      → ((p : ℕ) → 1 ≤ times p (pages_under l x) → (1 ≤ p) × (p < h.pages)) → R lo hi x)
      → {lo hi : ℕ} {es : Nodes l} → Seg (λ a b y. Shaped half Leaf l a b y) lo hi es → All W es → All (λ y. Stores l pages y) es
      → ((p : ℕ) → 1 ≤ times_below l p es → (1 ≤ p) × (p < h.pages)) → Seg R lo hi es
  seg_ready l R W f done w v i = done
  seg_ready l R W f (more {lo} {mid} {x = x} {es = es} e lt q r) w v i =
      more e lt (f lo mid x q (all_head w) (all_head v) (λ p m. i p (omega (arith, below_cons l p x es))))
      (seg_ready l R W f r (all_tail w) (all_tail v) (λ p m. i p (omega (arith, below_cons l p x es))))

  pub ready : (l sums counts lo hi : ℕ) (x : Node (Subtree l)) → Shaped half Leaf l lo hi x → Weighed h.kind h.changes l sums counts x
      → Stores l pages x
      → ((p : ℕ) → 1 ≤ times p (pages_under l x) → (1 ≤ p) × (p < h.pages)) → Ready l sums counts lo hi x
  unfolding Ready Shaped Stores
  ready zero sums counts lo hi x s w v i = (w, s)
  ready (suc l) sums counts lo hi x s w v i =
      let c : (1 ≤ x.entry.child)
      × (x.entry.child < h.pages) =
      i x.entry.child (omega (arith, under_suc l x.entry.child x, hit_self x.entry.child)) in (
        w,
        s.0.least,
        record {
          least = c.0;
          below = c.1;
          page = v.0;
          most = s.0.most;
          spans =
              seg_ready l (Ready l (sums + nat_abs x.entry.pair.sum) (counts + nat_abs x.entry.pair.count))
              (λ y. Weighed h.kind h.changes l (sums + nat_abs x.entry.pair.sum) (counts + nat_abs x.entry.pair.count) y)
              (λ a b y t u m j. ready l (sums + nat_abs x.entry.pair.sum) (counts + nat_abs x.entry.pair.count) a b y t u m j)
              s.1 (weighed_below h.kind h.changes l sums counts x w) v.1 (λ p m. i p (omega (arith, under_suc l p x)));
        },
      )

  -- ---- what it gives

  pub ready_weighed : (l sums counts lo hi : ℕ) (x : Node (Subtree l)) → Ready l sums counts lo hi x
      → Weighed h.kind h.changes l sums counts x
  unfolding Ready
  ready_weighed zero sums counts lo hi x r = r.0
  ready_weighed (suc l) sums counts lo hi x r = r.0

  pub ready_child : (l sums counts lo hi : ℕ) (x : Node (Subtree l)) → Ready l sums counts lo hi x
      → child_ok h.pages l x.entry.child ≡ true
  unfolding Ready child_ok
  ready_child zero sums counts lo hi x r = eq-eqb x.entry.child 0 r.1
  ready_child (suc l) sums counts lo hi x r =
      rw (ne_eqb (suc l) 0 (λ z. omega arith)) (simp and-eq-true_iff (le-leb _ _ r.2.least, lt-ltb _ _ r.2.below))

  child_small : (l sums counts lo hi : ℕ) (x : Node (Subtree l)) → Ready l sums counts lo hi x → x.entry.child ≤ h.pages
  unfolding Ready
  child_small zero sums counts lo hi x r = omega arith
  child_small (suc l) sums counts lo hi x r = omega arith

  module _ (ranges : Ranges half h) (few : h.changes ≤ most_changes) (l sums counts : ℕ) where
    entry_fits : (lo hi : ℕ) (x : Node (Subtree l)) → Ready l sums counts lo hi x → x.entry.start ≡ lo → lo < END → EntryFits x.entry
    entry_fits lo hi x r e lt =
        let p = pair_fits h.kind h.changes l sums counts x (ready_weighed l sums counts lo hi x r) few in
        let c = child_small l sums counts lo hi x r in
        record { start = omega arith; sum = p.0; count = p.1; child = omega (arith, c, ranges.pages_most) }

    pub entries_fit : {lo hi : ℕ} {es : Nodes l} → Seg (Ready l sums counts) lo hi es → hi ≤ END → EntriesFit (flat es)
    entries_fit done m i = no_entry_fits
    entries_fit (more {lo} {mid} {x = x} e lt q r) m zero = entry_fits lo mid x q e (omega (arith, seg_length r))
    entries_fit (more e lt q r) m (suc i) = entries_fit r m i
