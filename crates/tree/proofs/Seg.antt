-- Consecutive entries: appended, parted, mapped, and that their starts rise. Assumes nothing.
use Prim.Native.Nat.{ℕ, zero, suc, ◌≤◌, ◌<◌}
use mathlib.Core.Path.{◌≡◌, refl}
use mathlib.Core.Logic.{◌⊎◌, inl, inr}
use mathlib.Core.Bool.{Bool, true, false, cond}
use mathlib.Core.List.{List, [], ◌∷◌, ◌++◌}
use native.Mathlib.Omega.{arith}
use lib.Dec.{leb}
use lib.ListN.{length, take, drop, get_or}
use borrow.Author.Tests.{leb-true, leb-false, le-leb, lt-leb}
use Rattle.lists.specs.Lists.{All, all_none, all_more}
use Rattle.page.specs.Entries.{at}
use Rattle.steps.specs.Combine.{next_start}
use Rattle.tree.specs.Tree.{Node, flat}
use Rattle.tree.specs.Shape.{Asked, Seg, done, more, root_least}

pub le_or_lt : (a b : ℕ) → (a ≤ b) ⊎ (b < a)
le_or_lt a b = go (leb a b) refl
  where
    go : (x : Bool) → leb a b ≡ x → (a ≤ b) ⊎ (b < a)
    go true e = inl (leb-true a b e)
    go false e = inr (leb-false a b e)

-- the first k and the rest
pub record Parted {A : Type 0} (Q : Asked A) (lo hi k : ℕ) (es : List (Node A)) : Type 0 where
  pub mid : ℕ
  pub front : Seg Q lo mid (take k es)
  pub back : Seg Q mid hi (drop k es)

-- the later of two, as the last that starts at t or before
pub from_yes : {A : Type 0} {a t : ℕ} (x y : A) → a ≤ t → cond (leb a t) x y ≡ x
from_yes {a} {t} x y h = rw (le-leb a t h)

pub from_no : {A : Type 0} {a t : ℕ} (x y : A) → t < a → cond (leb a t) x y ≡ y
from_no {a} {t} x y h = rw (lt-leb a t h)

module _ {A : Type 0} {Q : Asked A} where
  pub seg_le : {lo hi : ℕ} {es : List (Node A)} → Seg Q lo hi es → lo ≤ hi
  seg_le done = omega arith
  seg_le (more e lt q r) = omega (arith, seg_le r)

  pub seg_lt : {lo hi : ℕ} {es : List (Node A)} → Seg Q lo hi es → 0 < length es → lo < hi
  seg_lt done n = omega arith
  seg_lt (more e lt q r) n = omega (arith, seg_le r)

  pub seg_some : {lo hi : ℕ} {es : List (Node A)} → Seg Q lo hi es → lo < hi → 0 < length es
  seg_some done lt = omega arith
  seg_some (more e lt q r) h = omega arith

  pub seg_one : {lo hi : ℕ} {x : Node A} → x.entry.start ≡ lo → lo < hi → Q lo hi x → Seg Q lo hi (x ∷ [])
  seg_one e lt q = more e lt q done

  pub seg_append : {lo mid hi : ℕ} {xs ys : List (Node A)} → Seg Q lo mid xs → Seg Q mid hi ys → Seg Q lo hi (xs ++ ys)
  seg_append done t = t
  seg_append (more e lt q r) t = more e lt q (seg_append r t)

  pub seg_head : {lo hi : ℕ} {es : List (Node A)} → Seg Q lo hi es → lo < hi → (at (flat es) 0).start ≡ lo
  seg_head done lt = absurd (omega arith)
  seg_head (more e lt q r) h = e

  pub seg_start : {lo hi : ℕ} {es : List (Node A)} → Seg Q lo hi es → next_start hi (flat es) ≡ lo
  unfolding next_start
  seg_start done = refl
  seg_start (more e lt q r) = e

  pub seg_part : {lo hi : ℕ} {es : List (Node A)} (k : ℕ) → Seg Q lo hi es → Parted Q lo hi k es
  seg_part {lo} zero s = record { mid = lo; front = done; back = s }
  seg_part {lo} (suc k) done = record { mid = lo; front = done; back = done }
  seg_part {lo = lo} {hi = hi} (suc k) (more {mid = mid} {x = x} {es = es} e lt q r) =
      let p = seg_part {lo = mid} k r in
      record { mid = p.mid; front = more e lt q p.front; back = p.back }

-- the starts rise
module _ {A : Type 0} {Q : Asked A} (d : Node A) where
  seg_low : {lo hi : ℕ} {es : List (Node A)} → Seg Q lo hi es → (k : ℕ) → k < length es → lo ≤ (get_or es k d).entry.start
  seg_low done k l = absurd (omega arith)
  seg_low (more e lt q r) zero l = omega arith
  seg_low (more e lt q r) (suc k) l = omega (arith, seg_low r k (omega arith))

  pub seg_rises : {lo hi : ℕ} {es : List (Node A)} → Seg Q lo hi es → (j k : ℕ) → j < k → k < length es
      → (get_or es j d).entry.start < (get_or es k d).entry.start
  seg_rises done j k lt l = absurd (omega arith)
  seg_rises (more e m q r) zero zero lt l = absurd (omega arith)
  seg_rises (more e m q r) zero (suc k) lt l = omega (arith, seg_low r k (omega arith))
  seg_rises (more e m q r) (suc j) zero lt l = absurd (omega arith)
  seg_rises (more e m q r) (suc j) (suc k) lt l = seg_rises r j k (omega arith) (omega arith)

-- within the same bounds, by what holds of each entry within them, and of its span
pub seg_spans : {A : Type 0} {Q R : Asked A} {lo hi : ℕ} {es : List (Node A)}
    → ((a b : ℕ) (x : Node A) → lo ≤ a → a < b → b ≤ hi → Q a b x → R a b x) → Seg Q lo hi es → Seg R lo hi es
seg_spans f done = done
seg_spans {lo} {hi} f (more {mid} {x} e lt q r) =
    more e lt (f lo mid x (omega arith) lt (omega (arith, seg_le r)) q) (seg_spans (λ a b y l k h. f a b y (omega arith) k h) r)

pub seg_map : {A : Type 0} {Q R : Asked A} {lo hi : ℕ} {es : List (Node A)}
    → ((a b : ℕ) (x : Node A) → lo ≤ a → b ≤ hi → Q a b x → R a b x) → Seg Q lo hi es → Seg R lo hi es
seg_map f = seg_spans (λ a b x l lt h. f a b x l h)

-- what holds of each entry within its bounds
pub seg_all : {A : Type 0} {Q : Asked A} {R : Node A → Type 0} {lo hi : ℕ} {es : List (Node A)}
    → ((a b : ℕ) (x : Node A) → Q a b x → R x) → Seg Q lo hi es → All R es
seg_all f done = all_none
seg_all f (more {lo} {mid} {x = x} e lt q r) = all_more (f lo mid x q) (seg_all f r)

-- a root has an entry, and need not have three
pub least_one : (l : ℕ) → 1 ≤ root_least l
unfolding root_least
least_one zero = omega arith
least_one (suc l) = omega arith

pub least_two : (l : ℕ) → root_least l ≤ 2
unfolding root_least
least_two zero = omega arith
least_two (suc l) = omega arith
