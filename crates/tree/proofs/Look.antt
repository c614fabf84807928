-- An instant's answer as a fold with a default, "the last entry starting at t or before": so that of an append it is that of the
-- parts, with no side condition. Assumes nothing.
use Prim.Native.Nat.{ℕ, suc, ◌+◌, ◌≤◌, ◌<◌}
use mathlib.Core.Path.{◌≡◌, refl, sym, ap, ◌∙◌}
use mathlib.Core.Bool.{cond}
use mathlib.Core.List.{List, [], ◌∷◌, ◌++◌}
use native.Mathlib.Omega.{arith}
use native.Mathlib.Nat.{zero-add, add-zero}
use lib.Dec.{leb}
use lib.ListN.{get_or}
use Rattle.lists.proofs.Choices.{cond_ap}
use Rattle.rule.specs.declared.Pair.{Pair}
use Rattle.page.specs.Entries.{last_from, index_of}
use Rattle.tree.specs.Tree.{Node, Subtree, Nodes, no_node, flat, node_of, pair_under, pair_in}
use Rattle.tree.specs.Shape.{Asked, Seg, done, more}
use Rattle.tree.proofs.Seg.{from_yes, from_no}

unfoldable pub look : {A B : Type 0} → (Node A → B) → ℕ → B → List (Node A) → B
look f t d [] = d
look f t d (x ∷ xs) = look f t (cond (leb x.entry.start t) (f x) d) xs

module _ {A : Type 0} where
  pub look_append : {B : Type 0} (f : Node A → B) (t : ℕ) (d : B) (xs ys : List (Node A))
      → look f t d (xs ++ ys) ≡ look f t (look f t d xs) ys
  unfolding look
  look_append f t d [] ys = refl
  look_append f t d (x ∷ xs) ys = look_append f t (cond (leb x.entry.start t) (f x) d) xs ys

  pub look_after : {B C : Type 0} (g : B → C) (f : Node A → B) (t : ℕ) (d : B) (es : List (Node A))
      → g (look f t d es) ≡ look (λ x. g (f x)) t (g d) es
  unfolding look
  look_after g f t d [] = refl
  look_after g f t d (x ∷ xs) =
      look_after g f t (cond (leb x.entry.start t) (f x) d) xs
      ∙ ap (λ z. look (λ y. g (f y)) t z xs) (cond_ap g (leb x.entry.start t) (f x) d)

  -- the entry at the index that `last_from` finds
  look_index : (t : ℕ) (all : List (Node A)) (d : Node A) (i k : ℕ) (es : List (Node A)) → ((n : ℕ) → get_or all (i + n) d ≡ get_or es n d)
      → get_or all (last_from t i k (flat es)) d ≡ look (λ x. x) t (get_or all k d) es
  unfolding look last_from
  look_index t all d i k [] h = refl
  look_index t all d i k (x ∷ xs) h =
      look_index t all d (suc i) (cond (leb x.entry.start t) i k) xs (λ n. ap (λ z. get_or all z d) (omega arith) ∙ h (suc n))
      ∙ ap (λ z. look (λ y. y) t z xs)
      (cond_ap (λ z. get_or all z d) (leb x.entry.start t) i k
      ∙ ap (λ z. cond (leb x.entry.start t) z (get_or all k d)) (ap (λ z. get_or all z d) (sym (add-zero i)) ∙ h 0))

  -- an entry that starts at t or before hides the default
  pub look_first : {B : Type 0} (f : Node A → B) (t : ℕ) (d : B) (x : Node A) (es : List (Node A)) → x.entry.start ≤ t
      → look f t d (x ∷ es) ≡ look f t (f x) es
  unfolding look
  look_first f t d x es h = ap (λ z. look f t z es) (from_yes (f x) d h)

  module _ {Q : Asked A} where
    -- before the first start
    pub look_early : {B : Type 0} {lo hi : ℕ} {es : List (Node A)} (f : Node A → B) (t : ℕ) (d : B) → Seg Q lo hi es → t < lo
        → look f t d es ≡ d
    unfolding look
    look_early f t d done h = refl
    look_early f t d (more {x} {es} e lt q r) h =
        let l : t < x.entry.start = omega arith in
        ap (λ z. look f t z es) (from_no (f x) d l) ∙ look_early f t d r (omega arith)

    -- from the first start on the default doesn't count
    pub look_any : {B : Type 0} {lo hi : ℕ} {es : List (Node A)} (f : Node A → B) (t : ℕ) (d d' : B) → Seg Q lo hi es → lo < hi
        → lo ≤ t → look f t d es ≡ look f t d' es
    look_any f t d d' done lt h = absurd (omega arith)
    look_any f t d d' (more {x} {es} e l q r) lt h =
        let s : x.entry.start ≤ t = omega arith in
        look_first f t d x es s ∙ sym (look_first f t d' x es s)

module _ (◌⊕◌ : Pair → Pair → Pair) where
  pub pair_in_look : (l : ℕ) {Q : Asked (Subtree l)} {lo hi : ℕ} {es : Nodes l} (t : ℕ) (d : Pair) → Seg Q lo hi es → lo < hi → lo ≤ t
      → pair_in ◌⊕◌ l t es ≡ look (pair_under ◌⊕◌ l t) t d es
  unfolding pair_in node_of index_of
  pair_in_look l {es = es} t d s lt h =
      ap (pair_under ◌⊕◌ l t) (look_index t es (no_node l) 0 0 es (λ n. ap (λ z. get_or es z (no_node l)) (zero-add n)))
      ∙ (look_after (pair_under ◌⊕◌ l t) (λ x. x) t (get_or es 0 (no_node l)) es
      ∙ look_any (pair_under ◌⊕◌ l t) t (pair_under ◌⊕◌ l t (get_or es 0 (no_node l))) d s lt h)
