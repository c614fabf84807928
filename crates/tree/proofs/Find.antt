-- Among consecutive entries, the one that has an instant, and the one before it. Assumes nothing.
use Prim.Native.Nat.{ℕ, suc, ◌+◌, ◌≤◌, ◌<◌}
use mathlib.Core.Path.{◌≡◌, refl, ap, ◌∙◌, subst⁻¹}
use mathlib.Core.Logic.{⊎_elim}
use mathlib.Core.Bool.{cond}
use mathlib.Core.List.{List, ◌∷◌, ◌++◌}
use native.Mathlib.Omega.{arith}
use native.Mathlib.Nat.{zero-add}
use lib.Dec.{leb}
use lib.ListN.{length, get_or, length-map}
use lib.Seq.{get_or-append_seam}
use Rattle.page.specs.Entries.{last_from, index_of}
use Rattle.page.proofs.Laws.Indices.{index_in}
use Rattle.tree.specs.Tree.{Node, Subtree, Nodes, no_node, flat, node_of}
use Rattle.tree.specs.Shape.{Asked, Seg, done, more}
use Rattle.tree.proofs.Seg.{le_or_lt, from_yes, from_no, seg_le}

-- the entry that has t is one of the list
pub index_inside : {A : Type 0} (t : ℕ) (es : List (Node A)) → 1 ≤ length es → index_of t (flat es) < length es
index_inside t es h =
    let n : length (flat es) ≡ length es = length-map es (λ x. x.entry) in
    omega (arith, index_in t (flat es) (omega arith))

-- The entry that has t, at the index i; past the end it is the last one.
pub data Found {A : Type 0} (Q : Asked A) (t : ℕ) : ℕ → ℕ → List (Node A) → ℕ → Type 0 where
  found : {lo a b hi : ℕ} {xs : List (Node A)} {x : Node A} {ys : List (Node A)}
      → Seg Q lo a xs → x.entry.start ≡ a → a < b → Q a b x → Seg Q b hi ys
      → a ≤ t → (t < hi → t < b) → Found Q t lo hi (xs ++ x ∷ ys) (length xs)

-- An entry x at the index i, behind entries from lo to a: it is the first, or one stands before it.
pub data Beside {A : Type 0} (Q : Asked A) (x : Node A) (ys : List (Node A)) : ℕ → ℕ → List (Node A) → ℕ → Type 0 where
  first : {a : ℕ} → Beside Q x ys a a (x ∷ ys) 0
  next : {lo mid a : ℕ} {pre : List (Node A)} {y : Node A}
      → Seg Q lo mid pre → y.entry.start ≡ mid → mid < a → Q mid a y → Beside Q x ys lo a (pre ++ y ∷ x ∷ ys) (suc (length pre))

-- the index, counted on from i
record IndexFound {A : Type 0} (Q : Asked A) (t lo hi i k : ℕ) (es : List (Node A)) : Type 0 where
  index : ℕ
  counted : last_from t i k (flat es) ≡ i + index
  here : Found Q t lo hi es index

module _ {A : Type 0} {Q : Asked A} where
  pub beside : {lo a : ℕ} {xs : List (Node A)} (x : Node A) (ys : List (Node A)) → Seg Q lo a xs
      → Beside Q x ys lo a (xs ++ x ∷ ys) (length xs)
  beside x ys done = first
  beside x ys (more e lt q r) = put e lt q (beside x ys r)
    where
      put : {lo mid a n : ℕ} {y : Node A} {es : List (Node A)} → y.entry.start ≡ lo → lo < mid → Q lo mid y
          → Beside Q x ys mid a es n → Beside Q x ys lo a (y ∷ es) (suc n)
      put e lt q first = next done e lt q
      put e lt q (next s f l p) = next (more e lt q s) f l p

  last_early : {lo hi : ℕ} {es : List (Node A)} (t i k : ℕ) → Seg Q lo hi es → t < lo → last_from t i k (flat es) ≡ k
  unfolding last_from
  last_early t i k done h = refl
  last_early t i k (more {x} {es} e lt q r) h =
      let l : t < x.entry.start = omega arith in
      ap (λ z. last_from t (suc i) z (flat es)) (from_no i k l) ∙ last_early t (suc i) k r (omega arith)

  last_here : {mid hi : ℕ} {es : List (Node A)} (x : Node A) (t i k : ℕ) → x.entry.start ≤ t → Seg Q mid hi es → t < mid
      → last_from t i k (flat (x ∷ es)) ≡ i
  unfolding last_from
  last_here {es} x t i k s r h = ap (λ z. last_from t (suc i) z (flat es)) (from_yes i k s) ∙ last_early t (suc i) i r h

  counted_find : {lo hi : ℕ} {es : List (Node A)} (t i k : ℕ) → Seg Q lo hi es → lo < hi → lo ≤ t → IndexFound Q t lo hi i k es
  unfolding last_from
  counted_find t i k done lt h = absurd (omega arith)
  counted_find t i k (more {x} e l q done) lt h =
      let s : x.entry.start ≤ t = omega arith in
      record { index = 0; counted = from_yes i k s ∙ omega arith; here = found done e l q done h (λ z. z) }
  counted_find {lo} {hi} t i k (more {mid} {x} e l q (more {x = y} {es = es} f l' q' r)) lt h =
      ⊎_elim
      (λ past. after (counted_find t (suc i) (cond (leb x.entry.start t) i k) (more f l' q' r) (omega (arith, seg_le r)) past))
      (λ before.
      record {
        index = 0;
        counted = last_here x t i k (omega arith) (more f l' q' r) before
            ∙ omega arith;
        here = found done e l q (more f l' q' r) h (λ z. before);
      })
      (le_or_lt mid t)
    where
      put : {n : ℕ} {zs : List (Node A)} → Found Q t mid hi zs n → Found Q t lo hi (x ∷ zs) (suc n)
      put (found s g m p r' le w) = found (more e l q s) g m p r' le w

      after : IndexFound Q t mid hi (suc i) (cond (leb x.entry.start t) i k) (y ∷ es) → IndexFound Q t lo hi i k (x ∷ y ∷ es)
      after w = record { index = suc w.index; counted = w.counted ∙ omega arith; here = put w.here }

  pub find : {lo hi : ℕ} {es : List (Node A)} (t : ℕ) → Seg Q lo hi es → lo < hi → lo ≤ t → Found Q t lo hi es (index_of t (flat es))
  unfolding index_of
  find t s lt h =
      let w = counted_find t 0 0 s lt h in
      rw (w.counted ∙ zero-add w.index) w.here

-- what is known of the entry that has t
pub record Has {A : Type 0} (Q : Asked A) (t hi : ℕ) (x : Node A) : Type 0 where
  pub end : ℕ
  pub begun : x.entry.start ≤ t
  pub ends : t < hi → t < end
  pub holds : Q x.entry.start end x

pub find_node : (l : ℕ) {Q : Asked (Subtree l)} {lo hi : ℕ} {es : Nodes l} (t : ℕ) → Seg Q lo hi es → lo < hi → lo ≤ t
    → Has Q t hi (node_of l t es)
unfolding node_of
find_node l {Q} {hi = hi} t s lt h = go (find t s lt h)
  where
    go : {lo i : ℕ} {es : Nodes l} → Found Q t lo hi es i → Has Q t hi (get_or es i (no_node l))
    go (found {b = b} {xs = xs} {x = x} {ys = ys} f e l' q r le w) =
        rw (get_or-append_seam xs x ys (no_node l)) (record { end = b; begun = omega arith; ends = w; holds = subst⁻¹ (λ a. Q a b x) e q })
