-- What is asked of a leaf predicate by each step, and what a tree's shape keeps. Assumes nothing.
use Prim.Native.Nat.{ℕ, zero, suc, ◌+◌, ◌≤◌, ◌<◌, ◌-◌}
use mathlib.Core.Path.{◌≡◌, ◌∙◌, subst}
use mathlib.Core.Logic.{inl, inr, ⊎_elim}
use mathlib.Core.List.{[], ◌∷◌}
use native.Mathlib.Omega.{arith}
use lib.ListN.{length, take, drop, length-take, length-drop, take-append-drop}
use Rattle.rule.specs.declared.Pair.{Pair}
use Rattle.rule.specs.Time.{END}
use Rattle.page.specs.declared.Entry.{Entry}
use Rattle.page.specs.Layout.{capacity}
use Rattle.page.specs.Entries.{entry, at}
use Rattle.tree.specs.Tree.{Node, Subtree, Nodes, flat, Tree}
use Rattle.tree.specs.Shape.{Asked, Seg, more, Filled, Shaped, Apart, Leaf, Formed}
use Rattle.tree.proofs.Seg.{seg_spans, seg_map, seg_part, seg_lt, seg_one, seg_head}
use Rattle.tree.proofs.Same.{Same, with_subtree, same_two}

-- a leaf entry from t on, and with another pair
abbrev pub from : ℕ → Node (Subtree 0) → Node (Subtree 0)
from t x = record { entry = entry t x.entry.pair x.entry.child; subtree = tt }

abbrev pub with_pair : {A : Type 0} → Pair → Node A → Node A
with_pair p x = record { entry = entry x.entry.start p x.entry.child; subtree = x.subtree }

-- kept of an entry by its two parts, where it is cut at t
pub record Cuttable (t : ℕ) (B : Asked (Subtree 0)) : Type 0 where
  pub before : (lo hi : ℕ) (x : Node (Subtree 0)) → lo < t → t < hi → B lo hi x → B lo t x
  pub after : (lo hi : ℕ) (x : Node (Subtree 0)) → lo < t → t < hi → B lo hi x → B t hi (from t x)

-- kept under any pair
pub record Pairless (B : Asked (Subtree 0)) : Type 0 where
  pub any_pair : (lo hi : ℕ) (x : Node (Subtree 0)) (p : Pair) → B lo hi x → B lo hi (with_pair p x)

-- kept by an entry that ends later, once the one behind it has gone
pub record Stretchable (B : Asked (Subtree 0)) : Type 0 where
  pub stretched : (lo mid hi : ℕ) (x : Node (Subtree 0)) → lo < mid → mid ≤ hi → B lo mid x → B lo hi x

-- and where t is cut besides
abbrev pub Parts : ℕ → Asked (Subtree 0) → Asked (Subtree 0)
Parts t B lo hi x = B lo hi x × Apart t lo hi

pub leaf_cuttable : (t : ℕ) → Cuttable t Leaf
leaf_cuttable t = record { before = λ lo hi x l h b. b; after = λ lo hi x l h b. b }

pub leaf_pairless : Pairless Leaf
leaf_pairless = record { any_pair = λ lo hi x p b. b }

pub leaf_stretchable : Stretchable Leaf
leaf_stretchable = record { stretched = λ lo mid hi x l h b. b }

module _ {B : Asked (Subtree 0)} (s : ℕ) where
  pub parts_cuttable : {t : ℕ} → Cuttable t B → Cuttable t (Parts s B)
  parts_cuttable cuts =
      record {
        before = λ lo hi x l h b. (cuts.before lo hi x l h b.0, ⊎_elim (λ k. inl (omega arith)) inr b.1);
        after = λ lo hi x l h b. (cuts.after lo hi x l h b.0, ⊎_elim inl (λ k. inr (omega arith)) b.1);
      }

  pub parts_pairless : Pairless B → Pairless (Parts s B)
  parts_pairless any = record { any_pair = λ lo hi x p b. (any.any_pair lo hi x p b.0, b.1) }

-- by what holds of each leaf entry within the bounds
pub shaped_map : (half : ℕ) {B C : Asked (Subtree 0)} (l lo hi : ℕ) (x : Node (Subtree l))
    → ((a b : ℕ) (y : Node (Subtree 0)) → lo ≤ a → b ≤ hi → B a b y → C a b y) → Shaped half B l lo hi x → Shaped half C l lo hi x
unfolding Shaped
shaped_map half zero lo hi x f s = f lo hi x (omega arith) (omega arith) s
shaped_map half (suc l) lo hi x f s =
    (s.0, seg_map (λ a b y low high q. shaped_map half l a b y (λ c d z p r. f c d z (omega arith) (omega arith)) q) s.1)

-- and of its span
pub shaped_spans : (half : ℕ) {B C : Asked (Subtree 0)} (l lo hi : ℕ) (x : Node (Subtree l)) → lo < hi
    → ((a b : ℕ) (y : Node (Subtree 0)) → lo ≤ a → a < b → b ≤ hi → B a b y → C a b y) → Shaped half B l lo hi x → Shaped half C l lo hi x
unfolding Shaped
shaped_spans half zero lo hi x lt f s = f lo hi x (omega arith) lt (omega arith) s
shaped_spans half (suc l) lo hi x lt f s = (
  s.0,
  seg_spans (λ a b y low lt high q. shaped_spans half l a b y lt (λ c d z p k r. f c d z (omega arith) k (omega arith)) q) s.1,
)

pub formed_spans : {half : ℕ} {B C : Asked (Subtree 0)} {T : Tree}
    → ((a b : ℕ) (y : Node (Subtree 0)) → a < b → b ≤ END → B a b y → C a b y) → Formed half B T → Formed half C T
formed_spans {half} {T = T} f F =
    record {
      least = F.least;
      most = F.most;
      spans =
          seg_spans (λ a b x low lt high q. shaped_spans half T.level a b x lt (λ c d y p k r. f c d y k (omega arith)) q) F.spans;
    }

pub formed_map : {half : ℕ} {B C : Asked (Subtree 0)} {T : Tree}
    → ((a b : ℕ) (y : Node (Subtree 0)) → B a b y → C a b y) → Formed half B T → Formed half C T
formed_map {half} {T = T} f F =
    record {
      least = F.least;
      most = F.most;
      spans = seg_map (λ a b x low high q. shaped_map half T.level a b x (λ c d y p r. f c d y) q) F.spans;
    }

-- ---- one page parted in two, by a cut or by a sibling that gives

module _ (half : ℕ) (B : Asked (Subtree 0)) (◌⊕◌ : Pair → Pair → Pair) (l : ℕ) where
  -- an entry that has these entries below became these
  pub record Became (lo hi : ℕ) (e : Entry) (es : Nodes l) (zs : Nodes (suc l)) : Type 0 where
    pub spans : Seg (Shaped half B (suc l)) lo hi zs
    pub same : Same ◌⊕◌ (suc l) (with_subtree e es ∷ []) zs

  pub parted : {lo hi : ℕ} {es : Nodes l} (k : ℕ) (e f : Entry) → e.start ≡ lo → f.start ≡ (at (flat (drop k es)) 0).start
      → f.pair ≡ e.pair
      → 0 < half → half ≤ k → half + k ≤ length es → length es ≤ capacity half + half
      → Seg (Shaped half B l) lo hi es
      → Became lo hi e es (with_subtree e (take k es) ∷ with_subtree f (drop k es) ∷ [])
  unfolding Shaped
  parted {lo} {hi} {es} k e f at_lo at_mid pairs pos low high most s =
      let p = seg_part k s in
      let n : length (take k es) ≡ k = length-take k es ∙ omega arith in
      let m : length (drop k es) ≡ length es - k = length-drop k es in
      let lt : lo < p.mid = seg_lt p.front (omega arith) in
      let lt' : p.mid < hi = seg_lt p.back (omega arith) in
      let start : f.start ≡ p.mid = at_mid ∙ seg_head p.back lt' in
      let left : Filled half (take k es) = record { least = omega arith; most = omega arith } in
      let right : Filled half (drop k es) = record { least = omega arith; most = omega arith } in
      record {
        spans = more at_lo lt (left, p.front) (seg_one start lt' (right, p.back));
        same =
            subst (λ z. Same ◌⊕◌ (suc l) (with_subtree e z ∷ []) (with_subtree e (take k es) ∷ with_subtree f (drop k es) ∷ []))
            (take-append-drop k es)
            (same_two ◌⊕◌ l e f at_lo start pairs lt lt' p.front p.back);
      }
