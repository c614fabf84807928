-- Two lists of entries that give every instant the same pair, whatever stands before them and behind. Assumes nothing.
use Prim.Native.Nat.{ℕ, suc, ◌≤◌, ◌<◌}
use mathlib.Core.Path.{◌≡◌, refl, sym, ap, ◌∙◌}
use mathlib.Core.Logic.{⊎_elim}
use mathlib.Core.Bool.{cond}
use mathlib.Core.List.{[], ◌∷◌, ◌++◌}
use native.Mathlib.Omega.{arith}
use lib.Dec.{leb}
use lib.ListN.{get_or}
use Rattle.lists.proofs.Choices.{either}
use Rattle.rule.specs.declared.Pair.{Pair}
use Rattle.rule.specs.Pairs.{none}
use Rattle.page.specs.declared.Entry.{Entry}
use Rattle.page.specs.Entries.{last_from, index_of}
use Rattle.tree.specs.Tree.{Node, Subtree, Nodes, no_node, node_of, pair_under, pair_in}
use Rattle.tree.specs.Shape.{Asked, Seg}
use Rattle.tree.proofs.Seg.{le_or_lt, from_yes, from_no, seg_append, seg_le, seg_one}
use Rattle.tree.proofs.Look.{look, look_append, look_early, pair_in_look}

-- an entry with these entries below
abbrev pub with_subtree : {A : Type 0} → Entry → A → Node A
with_subtree e k = record { entry = e; subtree = k }

module _ (◌⊕◌ : Pair → Pair → Pair) where
  infixl 60 ◌⊕◌
  pub record Same (l : ℕ) (es fs : Nodes l) : Type 0 where
    pub same : (u : ℕ) (d : Pair) → look (pair_under ◌⊕◌ l u) u d es ≡ look (pair_under ◌⊕◌ l u) u d fs

module _ {◌⊕◌ : Pair → Pair → Pair} {l : ℕ} where
  infixl 60 ◌⊕◌
  pub same_refl : (es : Nodes l) → Same ◌⊕◌ l es es
  same_refl es = record { same = λ u d. refl }

  pub same_sym : {es fs : Nodes l} → Same ◌⊕◌ l es fs → Same ◌⊕◌ l fs es
  same_sym h = record { same = λ u d. sym (h.same u d) }

  pub same_trans : {es fs gs : Nodes l} → Same ◌⊕◌ l es fs → Same ◌⊕◌ l fs gs → Same ◌⊕◌ l es gs
  same_trans h k = record { same = λ u d. h.same u d ∙ k.same u d }

  pub same_append : {es fs gs hs : Nodes l} → Same ◌⊕◌ l es fs → Same ◌⊕◌ l gs hs → Same ◌⊕◌ l (es ++ gs) (fs ++ hs)
  same_append {es} {fs} {gs} {hs} h k =
      record {
        same =
            λ u d.
            look_append (pair_under ◌⊕◌ l u) u d es gs
            ∙ (ap (λ z. look (pair_under ◌⊕◌ l u) u z gs) (h.same u d)
            ∙ (k.same u (look (pair_under ◌⊕◌ l u) u d fs) ∙ sym (look_append (pair_under ◌⊕◌ l u) u d fs hs)));
      }

  -- in the midst of others
  pub same_within : {es fs : Nodes l} (xs ys : Nodes l) → Same ◌⊕◌ l es fs → Same ◌⊕◌ l (xs ++ (es ++ ys)) (xs ++ (fs ++ ys))
  same_within xs ys h = same_append (same_refl xs) (same_append h (same_refl ys))

  module _ {Q R : Asked (Subtree l)} {lo hi : ℕ} {es fs : Nodes l} (s : Seg Q lo hi es) (r : Seg R lo hi fs) (lt : lo < hi) where
    pub same_pair_in : Same ◌⊕◌ l es fs → (u : ℕ) → lo ≤ u → pair_in ◌⊕◌ l u es ≡ pair_in ◌⊕◌ l u fs
    same_pair_in h u low = pair_in_look ◌⊕◌ l u none s lt low ∙ (h.same u none ∙ sym (pair_in_look ◌⊕◌ l u none r lt low))

    pub pair_in_same : ((u : ℕ) → lo ≤ u → pair_in ◌⊕◌ l u es ≡ pair_in ◌⊕◌ l u fs) → Same ◌⊕◌ l es fs
    pair_in_same h = record {
      same = λ u d. ⊎_elim (λ low. late u d low) (λ early. look_early (pair_under ◌⊕◌ l u) u d s early
          ∙ sym (look_early (pair_under ◌⊕◌ l u) u d r early)) (le_or_lt lo u);
    }
      where
        late : (u : ℕ) (d : Pair) → lo ≤ u → look (pair_under ◌⊕◌ l u) u d es ≡ look (pair_under ◌⊕◌ l u) u d fs
        late u d low = sym (pair_in_look ◌⊕◌ l u d s lt low) ∙ (h u low ∙ pair_in_look ◌⊕◌ l u d r lt low)

module _ (◌⊕◌ : Pair → Pair → Pair) (l : ℕ) where
  infixl 60 ◌⊕◌
  module _ {Q : Asked (Subtree l)} {lo mid hi : ℕ} {es fs : Nodes l} (s : Seg Q lo mid es) (r : Seg Q mid hi fs) where
    -- an instant of an append
    pub pair_in_front : lo < mid → (u : ℕ) → lo ≤ u → u < mid → pair_in ◌⊕◌ l u (es ++ fs) ≡ pair_in ◌⊕◌ l u es
    pair_in_front lt u low high =
        let F : Node (Subtree l) → Pair = pair_under ◌⊕◌ l u in
        pair_in_look ◌⊕◌ l u none (seg_append s r) (omega (arith, seg_le r)) low
        ∙ (look_append F u none es fs ∙ (look_early F u (look F u none es) r high ∙ sym (pair_in_look ◌⊕◌ l u none s lt low)))

    pub pair_in_back : mid < hi → (u : ℕ) → mid ≤ u → pair_in ◌⊕◌ l u (es ++ fs) ≡ pair_in ◌⊕◌ l u fs
    pair_in_back lt u low =
        let F : Node (Subtree l) → Pair = pair_under ◌⊕◌ l u in
        pair_in_look ◌⊕◌ l u none (seg_append s r) (omega (arith, seg_le s)) (omega (arith, seg_le s))
        ∙ (look_append F u none es fs ∙ sym (pair_in_look ◌⊕◌ l u (look F u none es) r lt low))

  -- one entry
  pub pair_in_one : (x : Node (Subtree (suc l))) (u : ℕ) → pair_in ◌⊕◌ (suc l) u (x ∷ []) ≡ x.entry.pair ⊕ pair_in ◌⊕◌ l u x.subtree
  unfolding pair_in pair_under node_of index_of last_from
  pair_in_one x u =
      either (λ n. pair_under ◌⊕◌ (suc l) u (get_or (x ∷ []) n (no_node (suc l))) ≡ x.entry.pair ⊕ pair_in ◌⊕◌ l u x.subtree) refl refl
      (leb x.entry.start u)

-- an entry's span by itself
pub span : {A : Type 0} {lo hi : ℕ} (e : Entry) (k : A) → e.start ≡ lo → lo < hi → Seg (λ a b x. Unit {0}) lo hi (with_subtree e k ∷ [])
span e k at_lo lt = seg_one at_lo lt tt

module _ (◌⊕◌ : Pair → Pair → Pair) (l : ℕ) where
  infixl 60 ◌⊕◌
  -- the same entry with other entries below
  pub same_one : {lo hi : ℕ} {Q R : Asked (Subtree l)} {es fs : Nodes l} (e : Entry)
      → e.start ≡ lo → lo < hi → Seg Q lo hi es → Seg R lo hi fs → Same ◌⊕◌ l es fs
      → Same ◌⊕◌ (suc l) (with_subtree e es ∷ []) (with_subtree e fs ∷ [])
  same_one {es = es} {fs = fs} e at_lo lt s r h =
      pair_in_same (span e es at_lo lt) (span e fs at_lo lt) lt
      (λ u low.
      pair_in_one ◌⊕◌ l (with_subtree e es) u
      ∙ (ap (λ z. e.pair ⊕ z) (same_pair_in s r lt h u low) ∙ sym (pair_in_one ◌⊕◌ l (with_subtree e fs) u)))

  -- an entry and two of its pair that have its entries below
  pub same_two : {lo mid hi : ℕ} {Q : Asked (Subtree l)} {left right : Nodes l} (e f : Entry)
      → e.start ≡ lo → f.start ≡ mid → f.pair ≡ e.pair → lo < mid → mid < hi → Seg Q lo mid left → Seg Q mid hi right
      → Same ◌⊕◌ (suc l) (with_subtree e (left ++ right) ∷ []) (with_subtree e left ∷ with_subtree f right ∷ [])
  same_two {lo} {mid} {hi} {left = left} {right = right} e f at_lo at_mid pairs lt lt' s r =
      pair_in_same (span e (left ++ right) at_lo (omega arith)) (seg_append first second) (omega arith)
      (λ u low.
      pair_in_one ◌⊕◌ l (with_subtree e (left ++ right)) u
      ∙ ⊎_elim
      (λ back.
      ap (λ z. e.pair ⊕ z) (pair_in_back ◌⊕◌ l s r lt' u back)
      ∙ (ap (λ z. z ⊕ pair_in ◌⊕◌ l u right) (sym pairs)
      ∙ (sym (pair_in_one ◌⊕◌ l (with_subtree f right) u) ∙ sym (pair_in_back ◌⊕◌ (suc l) first second lt' u back))))
      (λ front.
      ap (λ z. e.pair ⊕ z) (pair_in_front ◌⊕◌ l s r lt u low front)
      ∙ (sym (pair_in_one ◌⊕◌ l (with_subtree e left) u) ∙ sym (pair_in_front ◌⊕◌ (suc l) first second lt u low front)))
      (le_or_lt mid u))
    where
      first : Seg (λ a b x. Unit {0}) lo mid (with_subtree e left ∷ [])
      first = span e left at_lo lt

      second : Seg (λ a b x. Unit {0}) mid hi (with_subtree f right ∷ [])
      second = span f right at_mid lt'

-- a leaf entry and a later one with the same pair
pub same_leaf : (◌⊕◌ : Pair → Pair → Pair) (x y : Node (Subtree 0)) → x.entry.start ≤ y.entry.start
    → y.entry.pair ≡ x.entry.pair → Same ◌⊕◌ 0 (x ∷ y ∷ []) (x ∷ [])
unfolding look pair_under
same_leaf ◌⊕◌ x y le pairs =
    record {
      same =
          λ u d. ⊎_elim
          (λ (late : y.entry.start ≤ u).
          let k : x.entry.start ≤ u = omega arith in
          from_yes y.entry.pair (cond (leb x.entry.start u) x.entry.pair d) late
          ∙ (pairs ∙ sym (from_yes x.entry.pair d k)))
          (λ early. from_no y.entry.pair (cond (leb x.entry.start u) x.entry.pair d) early)
          (le_or_lt y.entry.start u);
    }
