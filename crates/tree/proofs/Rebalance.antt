-- A page that is left short is rebalanced with its sibling: both hold what they held, and each is filled again. Assumes nothing.
use Prim.Native.Nat.{ℕ, suc, ◌+◌, ◌-◌, ◌≤◌, ◌<◌}
use mathlib.Core.Path.{◌≡◌, refl, sym, ap, ◌∙◌, subst⁻¹}
use mathlib.Core.Logic.{◌⊎◌, inl, inr, ⊎_elim}
use mathlib.Core.Bool.{Bool, true, false, cond}
use mathlib.Core.List.{[], ◌∷◌, ◌++◌}
use native.Mathlib.Omega.{arith}
use lib.Dec.{eqb, ltb, eqb-suc-zero}
use lib.ListN.{length, take, drop, get_or, length-append}
use lib.Seq.{get_or-append_seam}
use borrow.Author.Tests.{ltb-true, ltb-false}
use Rattle.rule.specs.declared.Pair.{Pair}
use Rattle.rule.specs.Pairs.{none, Lawful}
use Rattle.page.specs.declared.Entry.{Entry}
use Rattle.page.specs.Layout.{capacity}
use Rattle.page.specs.Entries.{entry, at}
use Rattle.lists.specs.Lists.{splice}
use Rattle.steps.specs.Heal.{sibling, left_of}
use Rattle.tree.specs.Tree.{Node, Subtree, Nodes, no_node, flat, pair_in}
use Rattle.tree.specs.Supply.{Supply, with_page}
use Rattle.tree.specs.Heal.{Healing, pushed, joint, emptied, redistribute, merge, rebalance}
use Rattle.tree.specs.Shape.{Asked, Seg, done, more, Filled, Shaped}
use Rattle.tree.proofs.Seg.{seg_some, seg_one, seg_append}
use Rattle.tree.proofs.Find.{Beside, first, next}
use Rattle.tree.proofs.Splice.{splice_at, splice_next, get_or_next}
use Rattle.tree.proofs.Same.{Same, with_subtree, same_refl, same_sym, same_trans, same_append, same_within, same_two, pair_in_same}
use Rattle.tree.proofs.Same.{pair_in_one, span}
use Rattle.tree.proofs.Shapes.{Pairless, Became, parted}
use Rattle.tree.proofs.Push.{pushed_length, pushed_spans, pushed_pair}

-- Entries es from lo to hi became fs: by one less at the most.
pub record Heals (half : ℕ) (B : Asked (Subtree 0)) (◌⊕◌ : Pair → Pair → Pair) (l lo hi : ℕ) (es fs : Nodes l) : Type 0 where
  pub spans : Seg (Shaped half B l) lo hi fs
  pub same : Same ◌⊕◌ l es fs
  pub least : length es ≤ suc (length fs)
  pub most : length fs ≤ length es

-- ---- all entries of two pages under one parent

-- an entry with nothing of its own
abbrev pub flat_of : {A : Type 0} → Node A → Entry
flat_of x = entry x.entry.start none x.entry.child

module _ {◌⊕◌ : Pair → Pair → Pair} (lawful : Lawful ◌⊕◌) (l : ℕ) where
  infixl 60 ◌⊕◌
  -- the pair of x combined into its page's entries and set to (0, 0)
  emptied_same : {lo hi : ℕ} {Q : Asked (Subtree l)} (x : Node (Subtree (suc l))) → x.entry.start ≡ lo → lo < hi
      → Seg Q lo hi x.subtree
      → Same ◌⊕◌ (suc l) (x ∷ []) (with_subtree (flat_of x) (pushed ◌⊕◌ x) ∷ [])
  emptied_same x e lt s =
      pair_in_same (span x.entry x.subtree e lt) (span (flat_of x) (pushed ◌⊕◌ x) e lt) lt
      (λ u low.
      pair_in_one ◌⊕◌ l x u
      ∙ (sym (pushed_pair ◌⊕◌ l x u lawful s lt low)
      ∙ (sym (lawful.unit (pair_in ◌⊕◌ l u (pushed ◌⊕◌ x))) ∙ sym (pair_in_one ◌⊕◌ l (with_subtree (flat_of x) (pushed ◌⊕◌ x)) u))))

  module _ (x y : Node (Subtree (suc l))) where
    both_length : length (joint ◌⊕◌ x y) ≡ length x.subtree + length y.subtree
    unfolding joint
    both_length = length-append (pushed ◌⊕◌ x) (pushed ◌⊕◌ y) ∙ omega (arith, pushed_length ◌⊕◌ l x, pushed_length ◌⊕◌ l y)

    both_spans : (half : ℕ) {B : Asked (Subtree 0)} {lo mid hi : ℕ} → Pairless B → Seg (Shaped half B l) lo mid x.subtree
        → Seg (Shaped half B l) mid hi y.subtree → Seg (Shaped half B l) lo hi (joint ◌⊕◌ x y)
    unfolding joint
    both_spans half any s r = seg_append (pushed_spans ◌⊕◌ l x half any s) (pushed_spans ◌⊕◌ l y half any r)

    both_same : (half : ℕ) {B : Asked (Subtree 0)} {lo mid hi : ℕ} → Pairless B → x.entry.start ≡ lo → lo < mid
        → Seg (Shaped half B l) lo mid x.subtree
        → y.entry.start ≡ mid → mid < hi → Seg (Shaped half B l) mid hi y.subtree
        → Same ◌⊕◌ (suc l) (x ∷ y ∷ []) (with_subtree (flat_of x) (joint ◌⊕◌ x y) ∷ [])
    unfolding joint
    both_same half any e lt s f lt' r =
        same_trans (same_append (emptied_same x e lt s) (emptied_same y f lt' r))
        (same_sym (same_two ◌⊕◌ l (flat_of x) (flat_of y) e f refl lt lt' (pushed_spans ◌⊕◌ l x half any s)
        (pushed_spans ◌⊕◌ l y half any r)))

-- ---- what rebalancing does to the parent's entries

module _ (half : ℕ) (◌⊕◌ : Pair → Pair → Pair) (l : ℕ) (x y : Node (Subtree (suc l))) where
  -- the left page has k of all entries
  abbrev given : ℕ → Nodes (suc l)
  given k =
      with_subtree (flat_of x) (take k (joint ◌⊕◌ x y))
      ∷ with_subtree (entry (at (flat (drop k (joint ◌⊕◌ x y))) 0).start none y.entry.child) (drop k (joint ◌⊕◌ x y))
      ∷ []

  -- it has all
  abbrev merged : Nodes (suc l)
  merged = with_subtree (flat_of x) (joint ◌⊕◌ x y) ∷ []

module _ (half : ℕ) (◌⊕◌ : Pair → Pair → Pair) (l : ℕ) (pre : Nodes (suc l)) (x y : Node (Subtree (suc l))) (post : Nodes (suc l)) where
  -- two edits at x and y
  two_edits : (f g : Node (Subtree (suc l)) → Node (Subtree (suc l)) → Nodes (suc l))
      → splice (length pre)
      (f (get_or (pre ++ x ∷ y ∷ post) (length pre) (no_node (suc l))) (get_or (pre ++ x ∷ y ∷ post) (suc (length pre)) (no_node (suc l))))
      (splice (suc (length pre))
      (g (get_or (pre ++ x ∷ y ∷ post) (length pre) (no_node (suc l)))
      (get_or (pre ++ x ∷ y ∷ post) (suc (length pre)) (no_node (suc l)))) (pre ++ x ∷ y ∷ post))
      ≡ pre ++ (f x y ++ (g x y ++ post))
  two_edits f g =
      rw (
        get_or-append_seam pre x (y ∷ post) (no_node (suc l)),
        get_or_next pre x y post (no_node (suc l)),
        splice_next pre x y post
            (g x y),
      ) (splice_at pre x (g x y ++ post) (f x y))

  redistribute_is : (k : ℕ) → redistribute ◌⊕◌ l (length pre) k (pre ++ x ∷ y ∷ post) ≡ pre ++ (given half ◌⊕◌ l x y k ++ post)
  unfolding redistribute emptied
  redistribute_is k =
      two_edits (λ a b. with_subtree (flat_of a) (take k (joint ◌⊕◌ a b)) ∷ [])
      (λ a b. with_subtree (entry (at (flat (drop k (joint ◌⊕◌ a b))) 0).start none b.entry.child) (drop k (joint ◌⊕◌ a b)) ∷ [])

  merge_is : merge ◌⊕◌ l (length pre) (pre ++ x ∷ y ∷ post) ≡ pre ++ (merged half ◌⊕◌ l x y ++ post)
  unfolding merge emptied
  merge_is = two_edits (λ a b. with_subtree (flat_of a) (joint ◌⊕◌ a b) ∷ []) (λ a b. [])

  rebalance_is : (i n k : ℕ) (S : Supply) → left_of i ≡ length pre
      → length (get_or (pre ++ x ∷ y ∷ post) (sibling i) (no_node (suc l))).subtree ≡ n → cond (eqb i 0) half (n - 1) ≡ k
      → (rebalance half ◌⊕◌ l i (pre ++ x ∷ y ∷ post) S).nodes ≡
      pre ++ (cond (ltb half n) (given half ◌⊕◌ l x y k) (merged half ◌⊕◌ l x y) ++ post)
  unfolding rebalance
  rebalance_is i n k S left number takes = rw (number, takes, left) (go (ltb half n))
    where
      joins : Healing (Subtree (suc l))
      joins = record {
        nodes = merge ◌⊕◌ l (length pre) (pre ++ x ∷ y ∷ post);
        supply =
            with_page (get_or (pre ++ x ∷ y ∷ post) (suc (length pre)) (no_node (suc l))).entry.child S;
      }

      go : (z : Bool)
          → (cond z (record { nodes = redistribute ◌⊕◌ l (length pre) k (pre ++ x ∷ y ∷ post); supply = S }) joins).nodes ≡
          pre ++ (cond z (given half ◌⊕◌ l x y k) (merged half ◌⊕◌ l x y) ++ post)
      go true = redistribute_is k
      go false = merge_is

-- ---- the short page and its sibling

pub sibling_next : (n : ℕ) → sibling (suc n) ≡ n
unfolding sibling
sibling_next n = ap (λ z. cond z 1 (suc n - 1)) (eqb-suc-zero n) ∙ omega arith

module _ (half : ℕ) (pos : 0 < half) {B : Asked (Subtree 0)} (any : Pairless B) {◌⊕◌ : Pair → Pair → Pair} (lawful : Lawful ◌⊕◌)
    (l : ℕ) where
  -- the pages under x and y have one entry less than half and n together; the one at i is rebalanced with the other
  rebalance_two : {lo a b c hi : ℕ} {pre post : Nodes (suc l)} (x y : Node (Subtree (suc l))) (i n k : ℕ) (S : Supply)
      → Seg (Shaped half B (suc l)) lo a pre → x.entry.start ≡ a → a < b → Seg (Shaped half B l) a b x.subtree
      → y.entry.start ≡ b → b < c → Seg (Shaped half B l) b c y.subtree → Seg (Shaped half B (suc l)) c hi post
      → left_of i ≡ length pre → length (get_or (pre ++ x ∷ y ∷ post) (sibling i) (no_node (suc l))).subtree ≡ n
      → cond (eqb i 0) half (n - 1) ≡ k → (k ≡ half) ⊎ (k ≡ n - 1)
      → suc (length x.subtree + length y.subtree) ≡ half + n → half ≤ n → n ≤ capacity half
      → Heals half B ◌⊕◌ (suc l) lo hi (pre ++ x ∷ y ∷ post) (rebalance half ◌⊕◌ l i (pre ++ x ∷ y ∷ post) S).nodes
  unfolding Shaped
  rebalance_two {lo} {a} {b} {c} {hi} {pre} {post} x y i n k S before e lt s f lt' r behind left number takes which total low high =
      subst⁻¹ (Heals half B ◌⊕◌ (suc l) lo hi (pre ++ x ∷ y ∷ post))
      (rebalance_is half ◌⊕◌ l pre x y post i n k S left number takes) (go (ltb half n) refl)
    where
      all : length (joint ◌⊕◌ x y) ≡ length x.subtree + length y.subtree
      all = both_length lawful l x y

      spans : Seg (Shaped half B l) a c (joint ◌⊕◌ x y)
      spans = both_spans lawful l x y half any s r

      became : {zs : Nodes (suc l)} → Became half B ◌⊕◌ l a c (flat_of x) (joint ◌⊕◌ x y) zs → length zs ≤ 2
          → Heals half B ◌⊕◌ (suc l) lo hi (pre ++ x ∷ y ∷ post) (pre ++ (zs ++ post))
      became w most =
          let n = seg_some w.spans (omega arith) in
          record {
            spans = seg_append before (seg_append w.spans behind);
            same = same_within pre post (same_trans (both_same lawful l x y half any e lt s f lt' r) w.same);
            least = simp length-append (omega arith);
            most = simp length-append (omega arith);
          }

      go : (z : Bool) → ltb half n ≡ z
          → Heals half B ◌⊕◌ (suc l) lo hi (pre ++ x ∷ y ∷ post) (pre ++ (cond z (given half ◌⊕◌ l x y k) (merged half ◌⊕◌ l x y) ++ post))
      go true h =
          let over : half < n = ltb-true half n h in
          let least : half ≤ k = ⊎_elim (λ (q : k ≡ half). omega arith) (λ (q : k ≡ n - 1). omega arith) which in
          let most : half + k ≤ length (joint ◌⊕◌ x y) =
          ⊎_elim (λ (q : k ≡ half). omega (arith, all)) (λ (q : k ≡ n - 1). omega (arith, all)) which in
          became (parted half B ◌⊕◌ l k (flat_of x) _ e refl refl pos least most (omega (arith, all)) spans) (omega arith)
      go false h =
          let under : n ≤ half = ltb-false half n h in
          let fill : Filled half (joint ◌⊕◌ x y) = record { least = omega (arith, all); most = omega (arith, all) } in
          became (record { spans = seg_one e (omega arith) (fill, spans); same = same_refl (merged half ◌⊕◌ l x y) }) (omega arith)

  -- x is the first of its page
  rebalance_right : {a b hi : ℕ} {ys : Nodes (suc l)} (x : Node (Subtree (suc l))) (S : Supply)
      → x.entry.start ≡ a → a < b → Seg (Shaped half B l) a b x.subtree → suc (length x.subtree) ≡ half
      → Seg (Shaped half B (suc l)) b hi ys → 2 ≤ length (x ∷ ys)
      → Heals half B ◌⊕◌ (suc l) a hi (x ∷ ys) (rebalance half ◌⊕◌ l 0 (x ∷ ys) S).nodes
  unfolding Shaped left_of sibling
  rebalance_right x S e lt s short done two = absurd (omega arith)
  rebalance_right x S e lt s short (more {x = y} f lt' q behind) two =
      rebalance_two x y 0 (length y.subtree) half S done e lt s f lt' q.1 behind
      refl refl refl (inl refl) (omega arith) (omega (arith, q.0)) (omega (arith, q.0))

  -- the page under x is short by one entry
  pub rebalance_heals : {lo a b hi i : ℕ} {es ys : Nodes (suc l)} (x : Node (Subtree (suc l))) (S : Supply)
      → Beside (Shaped half B (suc l)) x ys lo a es i
      → x.entry.start ≡ a → a < b → Seg (Shaped half B l) a b x.subtree → suc (length x.subtree) ≡ half
      → Seg (Shaped half B (suc l)) b hi ys → 2 ≤ length es
      → Heals half B ◌⊕◌ (suc l) lo hi es (rebalance half ◌⊕◌ l i es S).nodes
  unfolding Shaped left_of
  rebalance_heals x S first e lt s short behind two = rebalance_right x S e lt s short behind two
  rebalance_heals {ys = ys} x S (next {pre = pre} {y = y} before f lt' q) e lt s short behind two =
      rebalance_two y x (suc (length pre)) (length y.subtree) (length y.subtree - 1) S before f lt' q.1 e lt s behind
      (omega arith)
      (rw (sibling_next (length pre), get_or-append_seam pre y (x ∷ ys) (no_node (suc l))))
      (rw (eqb-suc-zero (length pre)))
      (inr refl) (omega arith) (omega (arith, q.0)) (omega (arith, q.0))
