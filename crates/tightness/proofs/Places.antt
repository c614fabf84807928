-- Which page of a tight image stands where: the levels one behind another, from the leaves up. Assumes nothing.
use Prim.Native.Nat.{ℕ, zero, suc, ◌+◌, ◌-◌, ◌≤◌, ◌<◌}
use mathlib.Core.Path.{◌≡◌, ap}
use mathlib.Core.List.{List}
use native.Mathlib.Omega.{arith}
use native.Mathlib.Decide.{dec_le, dec_lt}
use lib.ListN.{length}
use Rattle.lists.specs.Lists.{sum}
use Rattle.image.specs.Images.{Image}
use Rattle.image.specs.Listing.{Run}
use Rattle.tight.specs.Tight.{pages_for}
use Rattle.tight.proofs.Levels.{sizes_one}
use Rattle.tree.specs.Tree.{Nodes}
use Rattle.tree.proofs.Seg.{least_one}
use Rattle.tightness.specs.State.{nodes_above}
use Rattle.tightness.proofs.Runs.{Laid, laid_above}

module _ (half : ℕ) (X : Image) (runs : List Run) where
  -- Page p is the one at `index` of a level, which is no lower than `least`.
  pub record Place (least p : ℕ) : Type 0 where
    pub most : ℕ
    pub level : ℕ
    pub first : ℕ
    pub nodes : Nodes level
    pub laid : Laid half X runs (suc most) level first nodes
    pub high : least ≤ level
    pub index : ℕ
    pub small : index < pages_for half (length nodes)
    pub is : p ≡ first + index

  -- another page of the level
  abbrev pub beside : {least p q : ℕ} (a : Place least p) (k : ℕ) → k < pages_for half (length a.nodes) → q ≡ a.first + k
      → Place least q
  beside a k small is =
      record {
        most = a.most;
        level = a.level;
        first = a.first;
        nodes = a.nodes;
        laid = a.laid;
        high = a.high;
        index = k;
        small = small;
        is = is;
      }

  -- Page p stands before page q: on the same level, or on a lower one.
  pub data Before (p q : ℕ) : Type 0 where
    along : (a : Place 0 p) (k : ℕ) → a.index < k → k < pages_for half (length a.nodes) → q ≡ a.first + k → Before p q
    above : (a : Place 0 p) (b : Place (suc a.level) q) → Before p q

  module _ (some : 1 ≤ half) where
    module _ (most l first : ℕ) (ns : Nodes l) (v : Laid half X runs (suc most) l first ns) where
      abbrev count : ℕ
      count = pages_for half (length ns)

      -- a page behind the level is on one above
      higher : {q : ℕ} → first + count ≤ q → q < X.head.mark → Laid half X runs most (suc l) (first + count) (nodes_above half first ns)
      unfolding sum
      higher {q} past below = laid_above half X runs some most l first ns v (go (dec_le 2 count))
        where
          go : Dec (2 ≤ count) → 2 ≤ count
          go (yes two) = two
          go (no few) =
              absurd (omega (arith, v.holds.mark, ap (sum (λ p. p)) (sizes_one half most (length ns) (omega arith))))

      abbrev here : {p : ℕ} (least : ℕ) → least ≤ l → first ≤ p → p < first + count → Place least p
      here {p} least high from lt =
          record {
            most = most;
            level = l;
            first = first;
            nodes = ns;
            laid = v;
            high = high;
            index = p - first;
            small = omega arith;
            is = omega arith;
          }

    pub place : (most l first : ℕ) (ns : Nodes l) → Laid half X runs most l first ns → (least p : ℕ) → least ≤ l → first ≤ p
        → p < X.head.mark → Place least p
    place zero l first ns v least p high from below = absurd (omega (arith, v.holds.least, v.holds.enough, least_one l))
    place (suc most) l first ns v least p high from below =
        go (dec_lt p (first + count most l first ns v))
        (λ past. place most (suc l) _ _ (higher most l first ns v past below) least p (omega arith) past below)
      where
        go : Dec (p < first + pages_for half (length ns)) → (first + pages_for half (length ns) ≤ p → Place least p) → Place least p
        go (yes lt) behind = here most l first ns v least high from lt
        go (no ge) behind = behind (omega arith)

    pub before : (most l first : ℕ) (ns : Nodes l) → Laid half X runs most l first ns → (p q : ℕ) → first ≤ p → p < q → q < X.head.mark
        → Before p q
    before zero l first ns v p q from lt below = absurd (omega (arith, v.holds.least, v.holds.enough, least_one l))
    before (suc most) l first ns v p q from lt below =
        go (dec_lt p (first + m)) (dec_lt q (first + m))
        (λ past. before most (suc l) _ _ (higher most l first ns v past (omega arith)) p q past lt below)
      where
        m : ℕ
        m = pages_for half (length ns)

        go : Dec (p < first + m) → Dec (q < first + m) → (first + m ≤ p → Before p q) → Before p q
        go (no ge) both behind = behind (omega arith)
        go (yes low) (yes also) behind =
            along (here most l first ns v 0 (omega arith) from low) (q - first) (omega arith) (omega arith) (omega arith)
        go (yes low) (no ge) behind =
            above (here most l first ns v 0 (omega arith) from low)
            (place most (suc l) _ _ (higher most l first ns v (omega arith) below) (suc l) q (omega arith) (omega arith) below)
