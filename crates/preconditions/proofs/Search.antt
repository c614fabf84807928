-- A page of consecutive entries can be searched for an instant. Assumes nothing.
use Prim.Native.Nat.{ℕ, zero, suc, ◌≤◌, ◌<◌}
use mathlib.Core.Path.{◌≡◌, sym, ap, ◌∙◌}
use mathlib.Core.List.{List}
use native.Mathlib.Omega.{arith}
use lib.ListN.{length, length-map}
use Rattle.page.specs.declared.Entry.{Entry}
use Rattle.page.specs.Entries.{at}
use Rattle.image.specs.Images.{Image, tree, entries_in}
use Rattle.steps.specs.Supply.{entries}
use Rattle.store.specs.Preconditions.{InImage, Searchable}
use Rattle.tree.specs.Tree.{Node, Subtree, Nodes, flat}
use Rattle.tree.specs.Shape.{Asked, Seg, done, more}
use Rattle.tree.proofs.Seg.{seg_some, seg_head}

pub seg_rising : {A : Type 0} {Q : Asked A} {lo hi : ℕ} {es : List (Node A)} → Seg Q lo hi es → (i : ℕ) → suc i < length es
    → (at (flat es) i).start < (at (flat es) (suc i)).start
seg_rising done i h = absurd (omega arith)
seg_rising (more e lt q done) i h = absurd (omega arith)
seg_rising (more e lt q (more f lt' q' r)) zero h = omega arith
seg_rising (more e lt q (more f lt' q' r)) (suc i) h = seg_rising (more f lt' q' r) i (omega arith)

-- A page of level l with entries from lo to hi can be searched for every t from lo on.
pub searched : {l lo hi p t : ℕ} {X : Image} {Q : Asked (Subtree l)} {es : Nodes l} → InImage p X → X.page p ≡ tree l (flat es)
    → Seg Q lo hi es
    → lo < hi
    → lo ≤ t
    → Searchable l p t X
unfolding entries entries_in
searched {l} {lo} {p = p} {t} {X} {es = es} within page spans some low =
    let e : entries X p ≡ flat es = ap entries_in page in
    let n : length (flat es) ≡ length es = length-map es (λ x. x.entry) in
    let first : (at (flat es) 0).start ≡ lo = seg_head spans some in
    over (flat es) e page (omega (arith, seg_some spans some)) (λ i h. seg_rising spans i (omega arith)) (omega arith)
  where
    over : (fs : List Entry) → entries X p ≡ fs → X.page p ≡ tree l fs → 1 ≤ length fs
        → ((i : ℕ) → suc i < length fs → (at fs i).start < (at fs (suc i)).start)
        → (at fs 0).start ≤ t
        → Searchable l p t X
    over fs e page some rising first =
        record {
          tree_page = record { within = within; page = page ∙ ap (λ (gs : List Entry). tree l gs) (sym e) };
          some = rw e some;
          rising = rw e rising;
          first = rw e first;
        }
