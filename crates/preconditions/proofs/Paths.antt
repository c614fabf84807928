-- The pages on the path to an instant can be searched for it: what is known of a page of the tree, and of the one below it. Assumes
-- nothing.
use Prim.Native.Nat.{ℕ, suc, ◌+◌, ◌≤◌, ◌<◌}
use mathlib.Core.Path.{◌≡◌, refl, sym, ap, ◌∙◌}
use mathlib.Core.List.{List}
use native.Mathlib.Omega.{arith}
use lib.ListN.{length}
use lib.IntN.{nat_abs}
use Rattle.lists.specs.Lists.{All}
use Rattle.lists.proofs.All.{all_at}
use Rattle.lists.proofs.Totals.{hit_self}
use Rattle.rule.specs.Time.{END}
use Rattle.page.specs.declared.Entry.{Entry}
use Rattle.page.specs.Entries.{index_of}
use Rattle.image.specs.Images.{Image, tree}
use Rattle.lists.specs.Lists.{times}
use Rattle.steps.specs.Supply.{entries}
use Rattle.store.specs.Preconditions.{InImage, Searchable}
use Rattle.tree.specs.Tree.{Node, Subtree, no_node, flat, pages_under, node_of}
use Rattle.tree.specs.Supply.{Supply}
use Rattle.tree.specs.Cut.{State, root_node}
use Rattle.tree.specs.Shape.{Seg, Shaped, Leaf}
use Rattle.tree.specs.Conserved.{times_spare}
use Rattle.tree.proofs.Seg.{seg_lt}
use Rattle.tree.proofs.Find.{Has, find_node}
use Rattle.refinement.specs.Represents.{Stores, Once, Stocked, Full}
use Rattle.refinement.proofs.Below.{node_at, under_suc, below_at}
use Rattle.refinement.proofs.Paths.{page_entries, there, has_index, stocked_on, stores_on}
use Rattle.refinement.proofs.Stepped.{held_is, once_is}
use Rattle.refinement.proofs.Formed.{formed_full}
use Rattle.invariant.specs.Invariant.{Structure}
use Rattle.invariant.proofs.To.Weights.{Weighed, bounds_weighed, weighed_below}
use Rattle.invariant.proofs.To.Known.{structure_once, tree_inside}
use Rattle.preconditions.proofs.Search.{searched}

-- a tree page shows its entries
pub page_shows : {l p : ℕ} {es : List Entry} (X : Image) → X.page p ≡ tree l es → X.page p ≡ tree l (entries X p)
page_shows {l} {p} X e = e ∙ ap (λ (es : List Entry). tree l es) (sym (page_entries p X e))

pub page_is : (l : ℕ) (X : Image) (x : Node (Subtree (suc l))) → Stores (suc l) X.page x
    → X.page x.entry.child ≡ tree l (entries X x.entry.child)
unfolding Stores
page_is l X x s = page_shows X s.0

-- What is known of the page under x on the path to t: its part of the tree is shown, its pages are the image's and none is held twice, its
-- entries follow each other from t or before, and their pairs are bounded, below pairs whose absolute sums and counts add to these.
pub record Known (half kind changes t : ℕ) (X : Image) (S : Supply) (l lo hi sums counts : ℕ) (x : Node (Subtree (suc l))) : Type 0 where
  pub shown : Stores (suc l) X.page x
  pub stocked : Stocked (suc l) x
  pub once : (q : ℕ) → times q (pages_under (suc l) x) + times_spare q S ≤ 1
  pub inside : (q : ℕ) → 1 ≤ times q (pages_under (suc l) x) → InImage q X
  pub spans : Seg (λ a b y. Shaped half Leaf l a b y) lo hi x.subtree
  pub begun : lo ≤ t
  pub weighed : All (λ y. Weighed kind changes l sums counts y) x.subtree

-- the page under the entry of x that has t
pub record Below (half kind changes t : ℕ) (X : Image) (S : Supply) (l sums counts : ℕ) (x : Node (Subtree (suc (suc l)))) : Type 0 where
  pub lo : ℕ
  pub hi : ℕ
  pub starts : (there (suc l) t x.subtree).entry.start ≡ lo
  pub filled : half ≤ length (there (suc l) t x.subtree).subtree
  pub known : Known half kind changes t X S l lo hi
      (sums + nat_abs (there (suc l) t x.subtree).entry.pair.sum)
      (counts + nat_abs (there (suc l) t x.subtree).entry.pair.count)
      (there (suc l) t x.subtree)

module _ {half kind changes t : ℕ} {X : Image} {S : Supply} where
  -- the page itself, and those under its entries
  pub here_inside : {l lo hi sums counts : ℕ} {x : Node (Subtree (suc l))} → Known half kind changes t X S l lo hi sums counts x
      → InImage x.entry.child X
  here_inside {l} {x = x} k = k.inside x.entry.child (omega (arith, under_suc l x.entry.child x, hit_self x.entry.child))

  pub child_inside : {l lo hi sums counts : ℕ} {x : Node (Subtree (suc (suc l)))}
      → Known half kind changes t X S (suc l) lo hi sums counts x
      → (j : ℕ)
      → j < length x.subtree
      → InImage (node_at (suc l) x.subtree j).entry.child X
  child_inside {l} {x = x} k j n =
      let y = node_at (suc l) x.subtree j in
      let q = y.entry.child in
      k.inside q (omega (arith, under_suc (suc l) q x, below_at (suc l) q j x.subtree n, under_suc l q y, hit_self q))

  some_span : {l lo hi sums counts : ℕ} {x : Node (Subtree (suc l))} → Known half kind changes t X S l lo hi sums counts x → lo < hi
  some_span {l} {x = x} k = seg_lt k.spans (omega (arith, has_index l t x k.stocked))

  -- it can be searched for t
  pub known_searchable : {l lo hi sums counts : ℕ} {x : Node (Subtree (suc l))} → Known half kind changes t X S l lo hi sums counts x
      → Searchable l x.entry.child t X
  unfolding Stores
  known_searchable k = searched (here_inside k) k.shown.0 k.spans (some_span k) k.begun

  -- one level down
  pub known_below : {l lo hi sums counts : ℕ} {x : Node (Subtree (suc (suc l)))} → Known half kind changes t X S (suc l) lo hi sums counts x
      → Below half kind changes t X S l sums counts x
  unfolding node_of Shaped
  known_below {l} {sums = sums} {counts} {x} k =
      let i = index_of t (flat x.subtree) in
      let y = there (suc l) t x.subtree in
      let n : i < length x.subtree = has_index (suc l) t x k.stocked in
      let f : Has (Shaped half Leaf (suc l)) t _ y = find_node (suc l) t k.spans (some_span k) k.begun in
      record {
        lo = y.entry.start;
        hi = f.end;
        starts = refl;
        filled = f.holds.0.least;
        known =
            record {
              shown = stores_on (suc l) t x k.stocked X k.shown;
              stocked = stocked_on (suc l) t x k.stocked;
              once = λ q. omega (arith, k.once q, under_suc (suc l) q x, below_at (suc l) q i x.subtree n);
              inside = λ q m. k.inside q (omega (arith, under_suc (suc l) q x, below_at (suc l) q i x.subtree n));
              spans = f.holds.1;
              begun = f.begun;
              weighed = weighed_below kind changes l sums counts y (all_at i (no_node (suc l)) k.weighed n);
            };
      }

-- ---- from the root

pub structure_known : {half kind changes : ℕ} {X : Image} {Y : State} → 2 ≤ half → (t : ℕ) → Structure half kind changes X Y
    → Known half kind changes t X Y.supply Y.tree.level 0 END 0 0 (root_node Y.tree)
unfolding root_node Full
structure_known {half} {X = X} {Y = Y} two t g =
    let T = Y.tree in
    let once : Once Y = structure_once g in
    record {
      shown = g.shown.below;
      stocked = formed_full half Leaf two Y g.formed;
      once = λ q. omega (arith, held_is q Y, once_is Y once q);
      inside =
          λ q m. let i = tree_inside g q (omega (arith, under_suc T.level q (root_node T))) in omega (arith, g.ranges.mark_most);
      spans = g.formed.spans;
      begun = omega arith;
      weighed = bounds_weighed _ _ T g.bounds;
    }
