-- The ways to t and to t − 1: in a page they go on to the same entry, or to the one that starts at t and the one before it. Of consecutive
-- entries, and of the page of an image that has them. Assumes nothing.
use Prim.Native.Nat.{ℕ, suc, ◌-◌, ◌≤◌, ◌<◌}
use mathlib.Core.Path.{◌≡◌, ap, ◌∙◌}
use mathlib.Core.List.{List}
use native.Mathlib.Decide.{dec_lt}
use native.Mathlib.Omega.{arith}
use lib.ListN.{length, length-map}
use Rattle.page.specs.declared.Entry.{Entry}
use Rattle.page.specs.Entries.{at, index_of}
use Rattle.page.proofs.Laws.Indices.{index_in, index_later, index_at}
use Rattle.image.specs.Images.{Image}
use Rattle.steps.specs.Supply.{entries}
use Rattle.tree.specs.Tree.{Node, Subtree, Nodes, no_node, flat}
use Rattle.tree.specs.Shape.{Asked, Seg}
use Rattle.tree.proofs.Seg.{seg_lt, seg_head, seg_rises}
use Rattle.refinement.specs.Represents.{Stores, Stocked}
use Rattle.refinement.proofs.Below.{node_at}
use Rattle.refinement.proofs.Paths.{entries_are, at_flat, has_index}

module _ (l : ℕ) {Q : Asked (Subtree l)} {lo hi : ℕ} {es : Nodes l} (s : Seg Q lo hi es) (some : 1 ≤ length es) (t : ℕ) where
  abbrev i : ℕ
  i = index_of t (flat es)

  abbrev start : ℕ → ℕ
  start j = (at (flat es) j).start

  long : length (flat es) ≡ length es
  long = length-map es (λ x. x.entry)

  inside : i < length (flat es)
  inside = index_in t (flat es) (omega (arith, long))

  rises : (j k : ℕ) → j < k → k < length (flat es) → start j < start k
  rises j k h n =
      let same : (m : ℕ) → start m ≡ (node_at l es m).entry.start = λ m. ap (λ (e : Entry). e.start) (at_flat l es m) in
      omega (arith, same j, same k, seg_rises (no_node l) s j k h (omega (arith, long)))

  -- where the first starts at t
  pub at_first : start 0 ≡ t → i ≡ 0
  at_first e = index_at t (flat es) 0 (omega (arith, long)) (omega arith) (λ j a n. omega (arith, rises 0 j a n))

  -- where the entry that has t starts before it
  pub together : start i < t → index_of (t - 1) (flat es) ≡ i
  together h = index_at (t - 1) (flat es) i inside (omega arith) (λ j a n. after j a n (dec_lt (suc i) j))
    where
      after : (j : ℕ) → i < j → j < length (flat es) → Dec (suc i < j) → t - 1 < start j
      after j a n (yes b) = omega (arith, rises (suc i) j b n, index_later t (flat es) (omega arith))
      after j a n (no b) =
          let e : j ≡ suc i = omega arith in
          let m : t < start (suc i) = index_later t (flat es) (omega arith) in
          rw e (omega arith)

  -- where it starts at t and isn't the first
  pub parted : start i ≡ t → 0 < i → index_of (t - 1) (flat es) ≡ i - 1
  parted e h =
      let before : start (i - 1) < start i = rises (i - 1) i (omega arith) inside in
      index_at (t - 1) (flat es) (i - 1) (omega (arith, inside)) (omega arith) (λ j a n. after j a n (dec_lt i j))
    where
      after : (j : ℕ) → i - 1 < j → j < length (flat es) → Dec (i < j) → t - 1 < start j
      after j a n (yes b) = omega (arith, rises i j b n, e)
      after j a n (no b) =
          let same : j ≡ i = omega arith in
          let low : start (i - 1) < start i = rises (i - 1) i (omega arith) inside in
          rw same (omega arith)

-- the page under x, whose entries follow each other from lo to hi
module _ (l : ℕ) {Q : Asked (Subtree l)} {lo hi : ℕ} (t : ℕ) (X : Image) (x : Node (Subtree (suc l))) (k : Stocked (suc l) x)
    (s : Stores (suc l) X.page x) (spans : Seg Q lo hi x.subtree) where
  abbrev here : List Entry
  here = entries X x.entry.child

  same : here ≡ flat x.subtree
  same = entries_are l X x s

  some : 1 ≤ length x.subtree
  some = omega (arith, has_index l t x k)

  pub wide : lo < hi
  wide = seg_lt spans some

  pub first_start : (at here 0).start ≡ lo
  first_start = rw same (seg_head spans wide)

  pub index_first : lo ≡ t → index_of t here ≡ 0
  index_first e = rw same (at_first l spans some t (seg_head spans wide ∙ e))

  pub index_together : (at here (index_of t here)).start < t → index_of (t - 1) here ≡ index_of t here
  index_together = rw same (together l spans some t)

  pub index_parted : (at here (index_of t here)).start ≡ t → 0 < index_of t here → index_of (t - 1) here ≡ index_of t here - 1
  index_parted = rw same (parted l spans some t)
