-- The cut at t: no instant's pair is altered, the shape is kept, and every leaf entry ends at t or starts there. Assumes nothing.
use Prim.Native.Nat.{ℕ, zero, suc, ◌+◌, ◌≤◌, ◌<◌}
use mathlib.Core.Path.{◌≡◌, refl, sym, ◌∙◌, subst⁻¹}
use mathlib.Core.Logic.{◌⊎◌, inl, inr}
use mathlib.Core.Bool.{Bool, true, false, cond}
use mathlib.Core.List.{[], ◌∷◌, ◌++◌}
use native.Mathlib.Omega.{arith}
use lib.Dec.{eqb, leb}
use lib.ListN.{length, get_or, length-append}
use lib.Seq.{get_or-append_seam}
use borrow.Author.Tests.{eqb-true, eqb-false, leb-true, leb-false, le-leb}
use Rattle.rule.specs.declared.Pair.{Pair}
use Rattle.rule.specs.Pairs.{none, Lawful}
use Rattle.rule.specs.Time.{END}
use Rattle.page.specs.declared.Entry.{Entry}
use Rattle.page.specs.Layout.{capacity}
use Rattle.page.specs.Entries.{entry, index_of}
use Rattle.lists.specs.Lists.{splice}
use Rattle.tree.specs.Tree.{Node, Subtree, Nodes, no_node, flat, Tree, pair_in, pair_at}
use Rattle.tree.specs.Supply.{Supply}
use Rattle.tree.specs.Cut.{cut_leaf, not_split, split, split_if_full, cut_node, State, root_node, grow_if_split, cut}
use Rattle.tree.specs.Shape.{Asked, Seg, more, Filled, Shaped, Formed, root_least}
use Rattle.tree.proofs.Seg.{seg_map, seg_one, seg_append}
use Rattle.tree.proofs.Find.{Found, found, find}
use Rattle.tree.proofs.Splice.{splice_at}
use Rattle.tree.proofs.Same.{Same, with_subtree, same_refl, same_sym, same_trans, same_within, same_one, same_leaf, same_pair_in}
use Rattle.tree.proofs.Same.{pair_in_one, span}
use Rattle.tree.proofs.Shapes.{Cuttable, Parts, from, shaped_map, Became, parted}

module _ (half : ℕ) (B : Asked (Subtree 0)) (◌⊕◌ : Pair → Pair → Pair) (t : ℕ) where
  -- entries es from lo to hi became fs: one of them became n
  pub record Cuts (l lo hi : ℕ) (es fs : Nodes l) (n : ℕ) : Type 0 where
    pub spans : Seg (Shaped half (Parts t B) l) lo hi fs
    pub same : Same ◌⊕◌ l es fs
    pub taken : length fs + 1 ≡ length es + n
    pub least : 1 ≤ n
    pub most : n ≤ 2

  -- what an entry may become
  abbrev CutOf : (l a b : ℕ) (x : Node (Subtree l)) (zs : Nodes l) → Type 0
  CutOf l a b x zs = Cuts l a b (x ∷ []) zs (length zs)

  module _ (l : ℕ) where
    -- the entries before t, and those behind it
    before : {lo hi : ℕ} {es : Nodes l} → hi ≤ t → Seg (Shaped half B l) lo hi es → Seg (Shaped half (Parts t B) l) lo hi es
    before h = seg_map (λ a b x low high q. shaped_map half l a b x (λ c d y p r k. (k, inl (omega arith))) q)

    behind : {lo hi : ℕ} {es : Nodes l} → t ≤ lo → Seg (Shaped half B l) lo hi es → Seg (Shaped half (Parts t B) l) lo hi es
    behind h = seg_map (λ a b x low high q. shaped_map half l a b x (λ c d y p r k. (k, inr (omega arith))) q)

    -- the entry of a list that has t is cut
    cut_in : {lo hi : ℕ} {es : Nodes l} (zs : Node (Subtree l) → Nodes l) (d : Node (Subtree l))
        → ((a b : ℕ) (x : Node (Subtree l)) → x.entry.start ≡ a → a < b → a ≤ t → t < b → Shaped half B l a b x → CutOf l a b x (zs x))
        → Seg (Shaped half B l) lo hi es → lo ≤ t → t < hi
        → Cuts l lo hi es (splice (index_of t (flat es)) (zs (get_or es (index_of t (flat es)) d)) es)
        (length (zs (get_or es (index_of t (flat es)) d)))
    cut_in {lo} {hi} {es} zs d each s low high = go (find t s (omega arith) low)
      where
        go : {es : Nodes l} {i : ℕ} → Found (Shaped half B l) t lo hi es i
            → Cuts l lo hi es (splice i (zs (get_or es i d)) es) (length (zs (get_or es i d)))
        go (found {a = a} {b = b} {xs = xs} {x = x} {ys = ys} f e lt q r le after) =
            let c = each a b x e lt le (after high) q in
            subst⁻¹ (λ y. Cuts l lo hi (xs ++ x ∷ ys) (splice (length xs) (zs y) (xs ++ x ∷ ys)) (length (zs y)))
            (get_or-append_seam xs x ys d)
            (subst⁻¹ (λ y. Cuts l lo hi (xs ++ x ∷ ys) y (length (zs x))) (splice_at xs x ys (zs x))
            (record {
              spans = seg_append (before le f) (seg_append c.spans (behind (omega (arith, after high)) r));
              same = same_within xs ys c.same;
              taken = simp length-append (omega arith);
              least = c.least;
              most = c.most;
            }))

  -- a page with the entries es below e, in which t is cut: it stays whole or stands in two
  data Outcome (l lo hi : ℕ) (e : Entry) (es : Nodes l) : Nodes (suc l) → Type 0 where
    whole : length es ≤ capacity half → Outcome l lo hi e es (with_subtree e es ∷ [])
    halves : {y z : Node (Subtree (suc l))} → capacity half < length es → Became half (Parts t B) ◌⊕◌ l lo hi e es (y ∷ z ∷ [])
        → Outcome l lo hi e es (y ∷ z ∷ [])

  module _ (pos : 0 < half) where
    split_if_full_outcome : {l lo hi : ℕ} (x : Node (Subtree (suc l))) (es : Nodes l) (S : Supply) → x.entry.start ≡ lo
        → length es ≤ suc (capacity half)
        → Seg (Shaped half (Parts t B) l) lo hi es → Outcome l lo hi x.entry es (split_if_full half x es S).became
    unfolding split_if_full not_split split
    split_if_full_outcome {l} {lo} {hi} x es S e most s = go (leb (length es) (capacity half)) refl
      where
        go : (z : Bool) → leb (length es) (capacity half) ≡ z
            → Outcome l lo hi x.entry es (cond z (not_split x es S) (split half x es S)).became
        go true f = whole (leb-true (length es) (capacity half) f)
        go false f =
            let k : capacity half < length es = leb-false (length es) (capacity half) f in
            halves k (parted half (Parts t B) ◌⊕◌ l half x.entry _ e refl refl pos (omega arith) (omega arith) (omega arith) s)

    -- what is below x became es, one of the entries n
    page_outcome : {l lo hi n : ℕ} (x : Node (Subtree (suc l))) (es : Nodes l) (S : Supply) → x.entry.start ≡ lo
        → length x.subtree ≤ capacity half
        → Cuts l lo hi x.subtree es n
        → Outcome l lo hi x.entry es (cond (eqb n 1) (not_split x es S) (split_if_full half x es S)).became
    unfolding not_split
    page_outcome {l} {lo} {hi} {n} x es S e most c = go (eqb n 1) refl
      where
        go : (z : Bool) → eqb n 1 ≡ z → Outcome l lo hi x.entry es (cond z (not_split x es S) (split_if_full half x es S)).became
        go true f = whole (omega (arith, eqb-true n 1 f))
        go false f = split_if_full_outcome x es S e (omega arith) c.spans

    page_cut : {l lo hi : ℕ} (x : Node (Subtree (suc l))) {es : Nodes l} {zs : Nodes (suc l)} {n : ℕ} → x.entry.start ≡ lo → lo < hi
        → Shaped half B (suc l) lo hi x → Cuts l lo hi x.subtree es n → Outcome l lo hi x.entry es zs → CutOf (suc l) lo hi x zs
    unfolding Shaped
    page_cut {l} x {es} e lt q c (whole most) =
        let fill : Filled half es = record { least = omega (arith, q.0); most = most } in
        record {
          spans = seg_one e lt (fill, c.spans);
          same = same_one ◌⊕◌ l x.entry e lt q.1 c.spans c.same;
          taken = refl;
          least = omega arith;
          most = omega arith;
        }
    page_cut {l} x e lt q c (halves over b) =
        record {
          spans = b.spans;
          same = same_trans (same_one ◌⊕◌ l x.entry e lt q.1 c.spans c.same) b.same;
          taken = refl;
          least = omega arith;
          most = omega arith;
        }

  module _ (cuts : Cuttable t B) where
    leaf_cut : (a b : ℕ) (x : Node (Subtree 0)) → x.entry.start ≡ a → a < b → a ≤ t → t < b → Shaped half B 0 a b x
        → CutOf 0 a b x (cut_leaf t x)
    unfolding cut_leaf Shaped
    leaf_cut a b x e lt low high q = go (eqb x.entry.start t) refl
      where
        go : (z : Bool) → eqb x.entry.start t ≡ z → CutOf 0 a b x (cond z (x ∷ []) (x ∷ from t x ∷ []))
        go true f =
            let k : t ≤ a = omega (arith, eqb-true x.entry.start t f) in
            record { spans = seg_one e lt (q, inr k); same = same_refl (x ∷ []); taken = refl; least = omega arith; most = omega arith }
        go false f =
            let k : a < t = omega (arith, eqb-false x.entry.start t f) in
            record {
              spans =
                  more e k (cuts.before a b x k high q, inl (omega arith))
                  (seg_one refl high (cuts.after a b x k high q, inr (omega arith)));
              same = same_sym (same_leaf ◌⊕◌ x (from t x) (omega arith) refl);
              taken = refl;
              least = omega arith;
              most = omega arith;
            }

    module _ (pos : 0 < half) where
      node_cut : (l a b : ℕ) (x : Node (Subtree l)) (S : Supply) → x.entry.start ≡ a → a < b → a ≤ t → t < b
          → Shaped half B l a b x → CutOf l a b x (cut_node half t l x S).became
      unfolding cut_node Shaped
      node_cut zero a b x S e lt low high q = leaf_cut a b x e lt low high q
      node_cut (suc l) a b x S e lt low high q =
          let c = cut_in l (λ y. (cut_node half t l y S).became) (no_node l)
          (λ a b y e lt low high q. node_cut l a b y S e lt low high q) q.1 low high in
          page_cut pos x e lt q c (page_outcome pos x _ _ e q.0.most c)

-- what a tree became
pub record CutTree (half : ℕ) (B : Asked (Subtree 0)) (◌⊕◌ : Pair → Pair → Pair) (t : ℕ) (T U : Tree) : Type 0 where
  pub formed : Formed half (Parts t B) U
  pub pairs : (u : ℕ) → pair_at ◌⊕◌ U u ≡ pair_at ◌⊕◌ T u
  pub level : (U.level ≡ T.level) ⊎ ((U.level ≡ suc T.level) × (length T.nodes ≡ capacity half))

module _ {half : ℕ} (two : 2 ≤ half) {t : ℕ} {B : Asked (Subtree 0)} (cuts : Cuttable t B) {◌⊕◌ : Pair → Pair → Pair}
    (lawful : Lawful ◌⊕◌) where
  grown_cut : (T : Tree) {es : Nodes T.level} {zs : Nodes (suc T.level)} {n : ℕ} (S : Supply) → Formed half B T
      → Cuts half B ◌⊕◌ t T.level 0 END T.nodes es n → Outcome half B ◌⊕◌ t T.level 0 END (entry 0 none T.root) es zs
      → CutTree half B ◌⊕◌ t T (grow_if_split T.level zs S).tree
  unfolding grow_if_split root_least
  grown_cut T S F c (whole most) =
      record {
        formed = record { least = omega arith; most = most; spans = c.spans };
        pairs = λ u. sym (same_pair_in F.spans c.spans (omega arith) c.same u (omega arith));
        level = inl refl;
      }
  grown_cut T {es} S F c (halves {y} {z} over b) =
      record {
        formed = record { least = omega arith; most = omega arith; spans = b.spans };
        pairs =
            λ u.
            sym (same_pair_in (span (entry 0 none T.root) es refl (omega arith)) b.spans (omega arith) b.same u (omega arith))
            ∙ (pair_in_one ◌⊕◌ T.level (with_subtree (entry 0 none T.root) es) u
            ∙ (lawful.unit (pair_in ◌⊕◌ T.level u es)
            ∙ sym (same_pair_in F.spans c.spans (omega arith) c.same u (omega arith))));
        level = inr (refl, omega (arith, F.most));
      }

  pub cut_tree : (Y : State) → Formed half B Y.tree → CutTree half B ◌⊕◌ t Y.tree (cut half t Y).tree
  unfolding cut cut_node root_node
  cut_tree Y F = go (leb END t) refl
    where
      T : Tree
      T = Y.tree

      go : (b : Bool) → leb END t ≡ b
          → CutTree half B ◌⊕◌ t T
          (cond b Y (grow_if_split T.level (cut_node half t (suc T.level) (root_node T) Y.supply).became
          (cut_node half t (suc T.level) (root_node T) Y.supply).supply)).tree
      go true e =
          record {
            formed = record { least = F.least; most = F.most; spans = before half B ◌⊕◌ t T.level (leb-true END t e) F.spans };
            pairs = λ u. refl;
            level = inl refl;
          }
      go false e =
          let pos : 0 < half = omega arith in
          let c =
          cut_in half B ◌⊕◌ t T.level (λ y. (cut_node half t T.level y Y.supply).became) (no_node T.level)
          (λ a b y. node_cut half B ◌⊕◌ t cuts pos T.level a b y Y.supply)
          F.spans (omega arith) (leb-false END t e) in
          grown_cut T _ F c (page_outcome half B ◌⊕◌ t pos (root_node T) _ _ refl F.most c)

  module _ (Y : State) (F : Formed half B Y.tree) where
    pub cut_formed : Formed half (Parts t B) (cut half t Y).tree
    cut_formed = (cut_tree Y F).formed

    pub cut_pairs : (u : ℕ) → pair_at ◌⊕◌ (cut half t Y).tree u ≡ pair_at ◌⊕◌ Y.tree u
    cut_pairs = (cut_tree Y F).pairs

    pub cut_level : ((cut half t Y).tree.level ≡ Y.tree.level)
        ⊎ (((cut half t Y).tree.level ≡ suc Y.tree.level) × (length Y.tree.nodes ≡ capacity half))
    cut_level = (cut_tree Y F).level

pub cut_past : (half t : ℕ) (Y : State) → END ≤ t → cut half t Y ≡ Y
unfolding cut
cut_past half t Y h = rw (le-leb END t h)
