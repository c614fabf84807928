-- Document 02, (iv): where the totals at t − 1 and at t are equal, the leaf entry that starts at t goes, also one that is first in its page;
-- no instant's pair is altered, the shape is kept, and no leaf entry starts at t any more. Assumes nothing.
use Prim.Native.Nat.{ℕ, zero, suc, ◌-◌, ◌≤◌, ◌<◌}
use mathlib.Core.Path.{◌≡◌, refl, sym, ap, ◌∙◌, subst, subst⁻¹}
use mathlib.Core.Logic.{◌⊎◌, inl, inr, ⊎_elim}
use mathlib.Core.Bool.{Bool, true, false, cond, ◌&&◌, ◌||◌, and-false}
use mathlib.Core.List.{List, [], ◌∷◌, ◌++◌}
use native.Mathlib.Omega.{arith}
use lib.Dec.{eqb, ltb}
use lib.ListN.{length, get_or, length-append}
use lib.Seq.{get_or-append_seam}
use borrow.Author.Tests.{eqb-true, eqb-false, eq-eqb, ne_eqb, lt-ltb}
use Rattle.rule.specs.declared.Pair.{Pair}
use Rattle.rule.specs.Pairs.{none, same_pair, Lawful}
use Rattle.rule.proofs.Tests.{both}
use Rattle.rule.proofs.Laws.{same_pair_is}
use Rattle.page.specs.declared.Entry.{Entry}
use Rattle.page.specs.Layout.{capacity}
use Rattle.page.specs.Entries.{at, index_of}
use Rattle.lists.specs.Lists.{splice}
use Rattle.steps.specs.Heal.{heals, carried}
use Rattle.tree.specs.Tree.{Node, Subtree, Nodes, no_node, flat, node_of, pair_under, pair_in}
use Rattle.tree.specs.Supply.{Supply}
use Rattle.tree.specs.Heal.{Healing, starts_leaf, heal_nodes}
use Rattle.tree.specs.Shape.{Asked, Seg, done, more, Filled, Shaped, root_least}
use Rattle.tree.proofs.Seg.{le_or_lt, from_no, seg_le, seg_lt, seg_some, seg_append, seg_head, least_two}
use Rattle.tree.proofs.Find.{Found, found, find, Beside, first, next, beside}
use Rattle.tree.proofs.Look.{look, look_append, look_first, look_early, look_any, pair_in_look}
use Rattle.tree.proofs.Same.{Same, with_subtree, same_within, same_one, pair_in_front, pair_in_back}
use Rattle.tree.proofs.Shapes.{Pairless, Stretchable}
use Rattle.tree.proofs.Stretch.{seg_stretch, shaped_stretch, pair_in_late, seg_keep}
use Rattle.tree.proofs.Rebalance.{Heals}
use Rattle.tree.proofs.Within.{rebalanced, healed_node, healed, healed_at, heals_after, settles, heals_refl, leaf_joined, flat_first, flat_next}

-- ---- the entry that has an instant

module _ (◌⊕◌ : Pair → Pair → Pair) (l : ℕ) {Q : Asked (Subtree l)} where
  pub pair_found : {lo a b hi : ℕ} {xs ys : Nodes l} (x : Node (Subtree l)) (u : ℕ) → Seg Q lo a xs → x.entry.start ≡ a → a < b → Q a b x
      → Seg Q b hi ys → a ≤ u → u < b → pair_in ◌⊕◌ l u (xs ++ x ∷ ys) ≡ pair_under ◌⊕◌ l u x
  pair_found {xs = xs} {ys = ys} x u before e lt q behind low high =
      let F : Node (Subtree l) → Pair = pair_under ◌⊕◌ l u in
      let h : x.entry.start ≤ u = omega arith in
      pair_in_look ◌⊕◌ l u none (seg_append before (more e lt q behind)) (omega (arith, seg_le before, seg_le behind))
      (omega (arith, seg_le before))
      ∙ (look_append F u none xs (x ∷ ys)
      ∙ (look_first F u (look F u none xs) x ys h ∙ look_early F u (F x) behind high))

  -- the same behind another entry
  pub pair_next : {lo m a b hi : ℕ} {pre ys : Nodes l} (y x : Node (Subtree l)) (u : ℕ) → Seg Q lo m pre → y.entry.start ≡ m → m < a → Q m a y
      → x.entry.start ≡ a → a < b → Q a b x → Seg Q b hi ys → a ≤ u → u < b
      → pair_in ◌⊕◌ l u (pre ++ y ∷ x ∷ ys) ≡ pair_under ◌⊕◌ l u x
  pair_next {ys = ys} y x u before f lt p e lt' q behind low high =
      pair_in_back ◌⊕◌ l before (more f lt p (more e lt' q behind)) (omega (arith, seg_le behind)) u (omega arith)
      ∙ pair_found {xs = y ∷ []} {ys = ys} x u (more f lt p done) e lt' q behind low high

-- ---- t starts a leaf

module _ (half : ℕ) (B : Asked (Subtree 0)) (t : ℕ) where
  -- a page that starts at t leads to a leaf that does
  pub starts_first : (l : ℕ) {hi : ℕ} {es : Nodes l} → t < hi → Seg (Shaped half B l) t hi es → starts_leaf t l es ≡ true
  unfolding starts_leaf Shaped node_of
  starts_first zero lt s = eq-eqb _ t (seg_head s lt)
  starts_first (suc l) {hi} lt s = go (λ b ks lt s. starts_first l {hi = b} {es = ks} lt s) (find t s lt (omega arith))
    where
      go : ((b : ℕ) (ks : Nodes l) → t < b → Seg (Shaped half B l) t b ks → starts_leaf t l ks ≡ true) → {i : ℕ} {es : Nodes (suc l)}
          → Found (Shaped half B (suc l)) t t hi es i → starts_leaf t l (get_or es i (no_node (suc l))).subtree ≡ true
      go each (found {a = a} {b = b} {xs = xs} {x = x} {ys = ys} before e lt q behind le after) =
          let same : a ≡ t = omega (arith, seg_le before) in
          subst⁻¹ (λ z. starts_leaf t l z.subtree ≡ true) (get_or-append_seam xs x ys (no_node (suc l)))
          (each b x.subtree (omega arith) (subst (λ c. Seg (Shaped half B l) c b x.subtree) same q.1))

  -- and only an instant of the page does
  pub starts_inside : (l : ℕ) {lo hi : ℕ} {es : Nodes l} → lo ≤ t → lo < hi → Seg (Shaped half B l) lo hi es → starts_leaf t l es ≡ true
      → t < hi
  unfolding starts_leaf Shaped node_of
  starts_inside zero low lt s h = let e = eqb-true _ t h in omega (arith, seg_head s lt)
  starts_inside (suc l) {lo} {hi} low lt s h = go (λ a b ks low lt s. starts_inside l {lo = a} {hi = b} {es = ks} low lt s) (find t s lt low) h
    where
      go : ((a b : ℕ) (ks : Nodes l) → a ≤ t → a < b → Seg (Shaped half B l) a b ks → starts_leaf t l ks ≡ true → t < b)
          → {i : ℕ} {es : Nodes (suc l)} → Found (Shaped half B (suc l)) t lo hi es i
          → starts_leaf t l (get_or es i (no_node (suc l))).subtree ≡ true → t < hi
      go each (found {a = a} {b = b} {xs = xs} {x = x} {ys = ys} before e lt q behind le after) h =
          let here : starts_leaf t l x.subtree ≡ true =
          subst (λ z. starts_leaf t l z.subtree ≡ true) (get_or-append_seam xs x ys (no_node (suc l))) h in
          omega (arith, each a b x.subtree le lt q.1 here, seg_le behind)

-- ---- the start that is carried up

module _ (edge : Bool) (t : ℕ) (fs : List Entry) (e : Entry) where
  -- an entry that started elsewhere stays as it is
  pub carried_not : (e.start ≡ t → ⊥) → carried edge t fs e ≡ e
  unfolding carried
  carried_not h = go edge
    where
      go : (b : Bool) → carried b t fs e ≡ e
      go true = rw (ne_eqb e.start t h)
      go false = refl

pub carried_start : (t : ℕ) (fs : List Entry) (e : Entry) → e.start ≡ t → (carried true t fs e).start ≡ (at fs 0).start
unfolding carried
carried_start t fs e h = rw (eq-eqb e.start t h)

-- ---- the first leaf entry of a page goes

-- Entries es from lo to hi became fs, which begin at mid: the leaf entry at lo has gone.
pub record Drops (half : ℕ) (C : Asked (Subtree 0)) (◌⊕◌ : Pair → Pair → Pair) (l lo hi : ℕ) (es fs : Nodes l) : Type 0 where
  pub mid : ℕ
  pub later : lo < mid
  pub earlier : mid < hi
  pub spans : Seg (Shaped half C l) mid hi fs
  pub same : (u : ℕ) (d : Pair) → mid ≤ u → look (pair_under ◌⊕◌ l u) u d es ≡ look (pair_under ◌⊕◌ l u) u d fs
  pub before : (u : ℕ) → lo ≤ u → u < mid → pair_in ◌⊕◌ l u es ≡ pair_in ◌⊕◌ l lo es
  pub least : length es ≤ suc (length fs)
  pub most : length fs ≤ length es

module _ {half : ℕ} (two : 2 ≤ half) {B C : Asked (Subtree 0)} (any : Pairless C) {◌⊕◌ : Pair → Pair → Pair} (lawful : Lawful ◌⊕◌) (t : ℕ)
    (keep : (a b : ℕ) (x : Node (Subtree 0)) → (a ≡ t → ⊥) → B a b x → C a b x) where
  infixl 60 ◌⊕◌
  drop_leaf : {hi : ℕ} {es : Nodes 0} → 2 ≤ length es → t < hi → Seg (Shaped half B 0) t hi es
      → Drops half C ◌⊕◌ 0 t hi es (splice (index_of t (flat es)) [] es)
  unfolding splice look pair_under
  drop_leaf {hi} n lt s = go (find t s lt (omega arith)) n
    where
      go : {i : ℕ} {es : Nodes 0} → Found (Shaped half B 0) t t hi es i → 2 ≤ length es → Drops half C ◌⊕◌ 0 t hi es (splice i [] es)
      go (found (more f lt' p r) e lt q behind le after) n = absurd (omega (arith, seg_le r))
      go (found {b = b} {x = x} {ys = ys} done e lt q behind le after) n =
          let F : (u : ℕ) → Node (Subtree 0) → Pair = λ u. pair_under ◌⊕◌ 0 u in
          let early : b < hi = seg_lt behind (omega arith) in
          record {
            mid = b;
            later = lt;
            earlier = early;
            spans = seg_keep half t keep 0 (inr lt) behind;
            same = λ u d low. look_any (F u) u _ d behind early low;
            before = λ u low high.
                pair_found ◌⊕◌ 0 x u done e lt q behind low high ∙ sym (pair_found ◌⊕◌ 0 x t done e lt q behind (omega arith) lt);
            least = omega arith;
            most = omega arith;
          }

  module _ (l : ℕ) where
    -- the entry x, whose page was healed as r, where both start at t
    module _ {b : ℕ} (x : Node (Subtree (suc l))) (r : Healing (Subtree l)) (e : x.entry.start ≡ t)
        (w : Drops half C ◌⊕◌ l t b x.subtree r.nodes) (s : Seg (Shaped half B l) t b x.subtree) where
      abbrev moved : Node (Subtree (suc l))
      moved = healed_node half ◌⊕◌ l true t x r

      pub starts_later : moved.entry.start ≡ w.mid
      starts_later = carried_start t (flat r.nodes) x.entry e ∙ seg_head w.spans w.earlier

      pub same_later : (u : ℕ) → w.mid ≤ u → pair_under ◌⊕◌ (suc l) u x ≡ pair_under ◌⊕◌ (suc l) u moved
      unfolding pair_under pair_in carried
      same_later u low =
          let lt : t < b = omega (arith, w.later, w.earlier) in
          ap (λ z. x.entry.pair ⊕ z)
          (pair_in_look ◌⊕◌ l u none s lt (omega (arith, w.later))
          ∙ (w.same u none low ∙ sym (pair_in_look ◌⊕◌ l u none w.spans w.earlier low)))

      pub same_before : (u : ℕ) → t ≤ u → u < w.mid → pair_under ◌⊕◌ (suc l) u x ≡ pair_under ◌⊕◌ (suc l) t x
      unfolding pair_under pair_in
      same_before u low high = ap (λ z. x.entry.pair ⊕ z) (w.before u low high)

    drop_inner : {hi : ℕ} {es : Nodes (suc l)} (H : Nodes l → Healing (Subtree l))
        → ((b : ℕ) (ks : Nodes l) → 2 ≤ length ks → t < b → Seg (Shaped half B l) t b ks → Drops half C ◌⊕◌ l t b ks (H ks).nodes)
        → 2 ≤ length es → t < hi → Seg (Shaped half B (suc l)) t hi es
        → Drops half C ◌⊕◌ (suc l) t hi es (healed half ◌⊕◌ l true t (index_of t (flat es)) H es).nodes
    unfolding Shaped
    drop_inner {hi} H each n lt s = go (find t s lt (omega arith)) n
      where
        go : {i : ℕ} {es : Nodes (suc l)} → Found (Shaped half B (suc l)) t t hi es i → 2 ≤ length es
            → Drops half C ◌⊕◌ (suc l) t hi es (healed half ◌⊕◌ l true t i H es).nodes
        go (found (more f lt' p r) e lt q behind le after) n = absurd (omega (arith, seg_le r))
        go (found {b = b} {x = x} {ys = ys} done e lt q behind le after) n =
            let r = H x.subtree in
            let w = each b x.subtree (omega (arith, q.0)) lt q.1 in
            let y = healed_node half ◌⊕◌ l true t x r in
            let late = starts_later x r e w q.1 in
            let F : (u : ℕ) → Node (Subtree (suc l)) → Pair = λ u. pair_under ◌⊕◌ (suc l) u in
            let v = settles half (omega arith) any lawful l y r refl done late w.earlier w.spans (omega (arith, w, q.0))
            (omega (arith, w, q.0)) (seg_keep half t keep (suc l) (inr lt) behind) (omega arith) in
            subst⁻¹ (λ z. Drops half C ◌⊕◌ (suc l) t hi (x ∷ ys) z.nodes) (healed_at half ◌⊕◌ l true t H [] x ys)
            (record {
              mid = w.mid;
              later = w.later;
              earlier = omega (arith, w.earlier, seg_le behind);
              spans = v.spans;
              same = λ u d low.
                  let h : x.entry.start ≤ u = omega (arith, w.later) in
                  let k : y.entry.start ≤ u = omega arith in
                  look_first (F u) u d x ys h
                  ∙ (ap (λ z. look (F u) u z ys) (same_later x r e w q.1 u low)
                  ∙ (sym (look_first (F u) u d y ys k) ∙ v.same.same u d));
              before = λ u low high.
                  pair_found ◌⊕◌ (suc l) x u done e lt q behind low (omega (arith, w.earlier))
                  ∙ (same_before x r e w q.1 u low high ∙ sym (pair_found ◌⊕◌ (suc l) x t done e lt q behind (omega arith) lt));
              least = omega (arith, v);
              most = omega (arith, v);
            })

  pub drops : (l : ℕ) {hi : ℕ} (es : Nodes l) (S : Supply) → 2 ≤ length es → t < hi → Seg (Shaped half B l) t hi es
      → Drops half C ◌⊕◌ l t hi es (heal_nodes half ◌⊕◌ true t l es S).nodes
  unfolding heal_nodes
  drops zero es S n lt s = drop_leaf n lt s
  drops (suc l) es S n lt s = drop_inner l (λ ks. heal_nodes half ◌⊕◌ true t l ks S) (λ b ks m lt s. drops l ks S m lt s) n lt s

-- ---- the entry at t goes, wherever it stands in its page

module _ {half : ℕ} (two : 2 ≤ half) {B C : Asked (Subtree 0)} (any : Pairless C) (longer : Stretchable C) {◌⊕◌ : Pair → Pair → Pair}
    (lawful : Lawful ◌⊕◌) (cancel : (p q r : Pair) → ◌⊕◌ p q ≡ ◌⊕◌ p r → q ≡ r) (t : ℕ)
    (keep : (a b : ℕ) (x : Node (Subtree 0)) → (a ≡ t → ⊥) → B a b x → C a b x) where
  infixl 60 ◌⊕◌
  -- the test within a page
  heals_here : (pre : Nodes 0) (y x : Node (Subtree 0)) (ys : Nodes 0) → x.entry.start ≡ t → x.entry.pair ≡ y.entry.pair
      → heals t (flat (pre ++ y ∷ x ∷ ys)) (suc (length pre)) ≡ true
  unfolding heals
  heals_here pre y x ys e pairs =
      let i : suc (length pre) - 1 ≡ length pre = omega arith in
      rw (flat_next pre y x ys, eq-eqb x.entry.start t e, i, flat_first pre y (x ∷ ys), lt-ltb 0 (suc (length pre)) (omega arith))
      ((same_pair_is x.entry.pair y.entry.pair).1 pairs)

  heals_not : (es : List Entry) (i : ℕ) → ((at es i).start ≡ t → ⊥) → heals t es i ≡ false
  unfolding heals
  heals_not es i h = rw (ne_eqb (at es i).start t h) (and-false (ltb 0 i))

  -- what is left of the entries of a leaf, the entry that has t at i
  abbrev left : ℕ → Nodes 0 → Nodes 0
  left i es = cond (heals t (flat es) i) (splice i [] es) es

  module _ {lo m a b hi : ℕ} {pre ys : Nodes 0} (y x : Node (Subtree 0)) (before : Seg (Shaped half B 0) lo m pre) (f : y.entry.start ≡ m)
      (lt' : m < a) (p : Shaped half B 0 m a y) (e : x.entry.start ≡ a) (lt : a < b) (q : Shaped half B 0 a b x)
      (behind : Seg (Shaped half B 0) b hi ys) (le : a ≤ t) (high : t < b)
      (equal : pair_in ◌⊕◌ 0 t (pre ++ y ∷ x ∷ ys) ≡ pair_in ◌⊕◌ 0 (t - 1) (pre ++ y ∷ x ∷ ys)) where
    abbrev es : Nodes 0
    es = pre ++ y ∷ x ∷ ys

    front_leaf : Seg (Shaped half C 0) lo m pre
    front_leaf = seg_keep half t keep 0 (inl (omega arith)) before

    back_leaf : Seg (Shaped half C 0) b hi ys
    back_leaf = seg_keep half t keep 0 (inr high) behind

    mend_next : Heals half C ◌⊕◌ 0 lo hi es (left (suc (length pre)) es)
    unfolding Shaped pair_under
    mend_next = go (eqb a t) refl
      where
        CLeft : C m a y
        CLeft = keep m a y (λ k. omega arith) p

        go : (z : Bool) → eqb a t ≡ z → Heals half C ◌⊕◌ 0 lo hi es (left (suc (length pre)) es)
        go true h =
            let here : a ≡ t = eqb-true a t h in
            let pairs : x.entry.pair ≡ y.entry.pair =
            sym (pair_next ◌⊕◌ 0 y x t before f lt' p e lt q behind le high)
            ∙ (equal ∙ pair_found ◌⊕◌ 0 y (t - 1) before f lt' p (more e lt q behind) (omega arith) (omega arith)) in
            subst⁻¹ (λ z. Heals half C ◌⊕◌ 0 lo hi es (cond z (splice (suc (length pre)) [] es) es))
            (heals_here pre y x ys (omega arith) pairs)
            (leaf_joined half C ◌⊕◌ y x longer pairs front_leaf f lt' CLeft e lt back_leaf)
        go false h =
            let other : a ≡ t → ⊥ = eqb-false a t h in
            let n : (at (flat es) (suc (length pre))).start ≡ a = ap (λ (w : Entry). w.start) (flat_next pre y x ys) ∙ e in
            subst⁻¹ (λ z. Heals half C ◌⊕◌ 0 lo hi es (cond z (splice (suc (length pre)) [] es) es))
            (heals_not (flat es) (suc (length pre)) (λ k. other (sym n ∙ k)))
            (heals_refl half C ◌⊕◌ (seg_append front_leaf (more f lt' CLeft (more e lt (keep a b x other q) back_leaf))))

  mend_leaf : {lo hi : ℕ} {es : Nodes 0} → lo < t → t < hi → Seg (Shaped half B 0) lo hi es → pair_in ◌⊕◌ 0 t es ≡ pair_in ◌⊕◌ 0 (t - 1) es
      → Heals half C ◌⊕◌ 0 lo hi es (left (index_of t (flat es)) es)
  unfolding Shaped
  mend_leaf {lo} {hi} low high s equal = go (find t s (omega arith) (omega arith)) equal
    where
      by_place : {i a b : ℕ} {es ys : Nodes 0} (x : Node (Subtree 0)) → Beside (Shaped half B 0) x ys lo a es i → x.entry.start ≡ a → a < b
          → Shaped half B 0 a b x → Seg (Shaped half B 0) b hi ys → a ≤ t → t < b → pair_in ◌⊕◌ 0 t es ≡ pair_in ◌⊕◌ 0 (t - 1) es
          → Heals half C ◌⊕◌ 0 lo hi es (left i es)
      by_place {b = b} {ys = ys} x first e lt q behind le high equal =
          subst⁻¹ (λ z. Heals half C ◌⊕◌ 0 lo hi (x ∷ ys) (cond z (splice 0 [] (x ∷ ys)) (x ∷ ys)))
          (heals_not (flat (x ∷ ys)) 0 (λ k. omega arith))
          (heals_refl half C ◌⊕◌ (more e lt (keep lo b x (λ k. omega arith) q) (seg_keep half t keep 0 (inr high) behind)))
      by_place x (next {y = y} before f lt' p) e lt q behind le high equal = mend_next y x before f lt' p e lt q behind le high equal

      go : {i : ℕ} {es : Nodes 0} → Found (Shaped half B 0) t lo hi es i → pair_in ◌⊕◌ 0 t es ≡ pair_in ◌⊕◌ 0 (t - 1) es
          → Heals half C ◌⊕◌ 0 lo hi es (left i es)
      go (found {x = x} {ys = ys} before e lt q behind le after) equal = by_place x (beside x ys before) e lt q behind le (after high) equal

  -- ---- an inner page

  module _ (l : ℕ) (edge : Bool) (H : Nodes l → Healing (Subtree l)) {lo a b hi : ℕ} {xs ys : Nodes (suc l)} (x : Node (Subtree (suc l)))
      (before : Seg (Shaped half B (suc l)) lo a xs) (e : x.entry.start ≡ a) (lt : a < b) (q : Shaped half B (suc l) a b x)
      (behind : Seg (Shaped half B (suc l)) b hi ys) (le : a ≤ t) (high : t < b) (n : 2 ≤ length (xs ++ x ∷ ys))
      (equal : pair_in ◌⊕◌ (suc l) t (xs ++ x ∷ ys) ≡ pair_in ◌⊕◌ (suc l) (t - 1) (xs ++ x ∷ ys)) where
    abbrev r : Healing (Subtree l)
    r = H x.subtree

    abbrev after : Node (Subtree (suc l))
    after = healed_node half ◌⊕◌ l edge t x r

    as_many : (z : Node (Subtree (suc l))) → length (xs ++ x ∷ ys) ≡ length (xs ++ z ∷ ys)
    as_many z = simp length-append

    front : Seg (Shaped half C (suc l)) lo a xs
    front = seg_keep half t keep (suc l) (inl le) before

    back : Seg (Shaped half C (suc l)) b hi ys
    back = seg_keep half t keep (suc l) (inr high) behind

    -- the ways to t and to t − 1 go on together
    module _ (low : a < t) where
      pub equal_below : pair_in ◌⊕◌ l t x.subtree ≡ pair_in ◌⊕◌ l (t - 1) x.subtree
      unfolding pair_under pair_in
      equal_below =
          cancel x.entry.pair _ _
          (sym (pair_found ◌⊕◌ (suc l) x t before e lt q behind le high)
          ∙ (equal ∙ pair_found ◌⊕◌ (suc l) x (t - 1) before e lt q behind (omega arith) (omega arith)))

      pub together : Heals half C ◌⊕◌ l a b x.subtree r.nodes
          → Heals half C ◌⊕◌ (suc l) lo hi (xs ++ x ∷ ys) (rebalanced half ◌⊕◌ l (length xs) r (xs ++ after ∷ ys)).nodes
      unfolding Shaped
      together h =
          let y = with_subtree x.entry r.nodes in
          let c : after ≡ y =
          ap (λ (z : Entry). with_subtree z r.nodes) (carried_not edge t (flat r.nodes) x.entry (λ k. omega arith)) in
          subst⁻¹
          (λ (z : Node (Subtree (suc l))).
          Heals half C ◌⊕◌ (suc l) lo hi (xs ++ x ∷ ys) (rebalanced half ◌⊕◌ l (length xs) r (xs ++ z ∷ ys)).nodes) c
          (heals_after (as_many y) (same_within xs ys (same_one ◌⊕◌ l x.entry e lt q.1 h.spans h.same))
          (settles half (omega arith) any lawful l y r refl front e lt h.spans (omega (arith, h, q.0)) (omega (arith, h, q.0)) back
          (omega (arith, as_many y))))

    -- they part here: the page below x starts at t, and so do the first entries below it
    module _ (here : a ≡ t) (low : lo < t) (w : Drops half C ◌⊕◌ l t b x.subtree r.nodes) where
      abbrev y : Node (Subtree (suc l))
      y = healed_node half ◌⊕◌ l true t x r

      below : Seg (Shaped half B l) t b x.subtree
      unfolding Shaped
      below = subst (λ c. Seg (Shaped half B l) c b x.subtree) here q.1

      late : y.entry.start ≡ w.mid
      late = starts_later two any lawful t keep l x r (e ∙ here) w below

      -- from t on and up to the new start, the entries to the left answer what x answered
      left_answers : (u : ℕ) (d : Pair) → t ≤ u → u < w.mid
          → pair_under ◌⊕◌ (suc l) u x ≡ look (pair_under ◌⊕◌ (suc l) u) u d xs
      left_answers u d low_u high_u =
          same_before two any lawful t keep l x r (e ∙ here) w below u low_u high_u
          ∙ (sym (pair_found ◌⊕◌ (suc l) x t before e lt q behind le high)
          ∙ (equal
          ∙ (pair_in_front ◌⊕◌ (suc l) before (more e lt q behind) (omega arith) (t - 1) (omega arith) (omega arith)
          ∙ (pair_in_late half B ◌⊕◌ (suc l) (t - 1) u (omega arith) (omega arith) (omega arith) before
          ∙ pair_in_look ◌⊕◌ (suc l) u d before (omega arith) (omega arith)))))

      same_parted : Same ◌⊕◌ (suc l) (xs ++ x ∷ ys) (xs ++ y ∷ ys)
      unfolding look
      same_parted = record {
        same = λ u d.
            look_append (pair_under ◌⊕◌ (suc l) u) u d xs (x ∷ ys)
            ∙ (at_x u d ∙ sym (look_append (pair_under ◌⊕◌ (suc l) u) u d xs (y ∷ ys)));
      }
        where
          F : (u : ℕ) → Node (Subtree (suc l)) → Pair
          F u = pair_under ◌⊕◌ (suc l) u

          -- neither has begun
          not_yet : (u : ℕ) (D : Pair) (z : Node (Subtree (suc l))) → u < z.entry.start → u < b → look (F u) u D (z ∷ ys) ≡ D
          not_yet u D z h k = ap (λ v. look (F u) u v ys) (from_no (F u z) D h) ∙ look_early (F u) u D behind k

          at_x : (u : ℕ) (d : Pair) → look (F u) u (look (F u) u d xs) (x ∷ ys) ≡ look (F u) u (look (F u) u d xs) (y ∷ ys)
          at_x u d =
              let D = look (F u) u d xs in
              ⊎_elim
              (λ (h : w.mid ≤ u).
              let i : x.entry.start ≤ u = omega (arith, w.later) in
              let j : y.entry.start ≤ u = omega (arith, late) in
              look_first (F u) u D x ys i
              ∙ (ap (λ z. look (F u) u z ys) (same_later two any lawful t keep l x r (e ∙ here) w below u h)
              ∙ sym (look_first (F u) u D y ys j)))
              (λ (h : u < w.mid).
              let k : u < b = omega (arith, w.earlier) in
              let right = not_yet u D y (omega (arith, late)) k in
              ⊎_elim
              (λ (from : t ≤ u).
              let i : x.entry.start ≤ u = omega arith in
              look_first (F u) u D x ys i ∙ (look_early (F u) u (F u x) behind k ∙ (left_answers u d from h ∙ sym right)))
              (λ (until : u < t). not_yet u D x (omega arith) k ∙ sym right)
              (le_or_lt t u))
              (le_or_lt w.mid u)

      pub parted_here : Heals half C ◌⊕◌ (suc l) lo hi (xs ++ x ∷ ys) (rebalanced half ◌⊕◌ l (length xs) r (xs ++ y ∷ ys)).nodes
      unfolding Shaped
      parted_here =
          let longer_front : Seg (Shaped half C (suc l)) lo w.mid xs =
          seg_stretch (λ c z h k. shaped_stretch half C longer (suc l) c a w.mid z h (omega (arith, w.later)) k) (omega arith)
          (omega (arith, w.later)) front in
          heals_after (as_many y) same_parted
          (settles half (omega arith) any lawful l y r refl longer_front late w.earlier w.spans (omega (arith, w, q.0))
          (omega (arith, w, q.0)) back (omega (arith, as_many y)))

  -- ---- by the level

  pub mends : (l : ℕ) {lo hi : ℕ} (es : Nodes l) (S : Supply) (edge : Bool) → root_least l ≤ length es → lo < t → t < hi
      → Seg (Shaped half B l) lo hi es → starts_leaf t l es ≡ edge → pair_in ◌⊕◌ l t es ≡ pair_in ◌⊕◌ l (t - 1) es
      → Heals half C ◌⊕◌ l lo hi es (heal_nodes half ◌⊕◌ edge t l es S).nodes
  unfolding heal_nodes starts_leaf root_least node_of Shaped
  mends zero {lo} {hi} es S edge n low high s starts equal =
      let not : eqb (at (flat es) 0).start t ≡ false = ne_eqb _ t (λ k. omega (arith, seg_head s (omega arith))) in
      subst (λ z. Heals half C ◌⊕◌ 0 lo hi es (cond (z || heals t (flat es) (index_of t (flat es))) (splice (index_of t (flat es)) [] es) es))
      (sym not ∙ starts) (mend_leaf low high s equal)
  mends (suc l) {lo} {hi} es S edge n low high s starts equal =
      go (λ a b ks m low high s starts equal. mends l {lo = a} {hi = b} ks S edge m low high s starts equal) (find t s (omega arith) (omega arith)) n starts equal
    where
      H : Nodes l → Healing (Subtree l)
      H ks = heal_nodes half ◌⊕◌ edge t l ks S

      go : ((a b : ℕ) (ks : Nodes l) → root_least l ≤ length ks → a < t → t < b → Seg (Shaped half B l) a b ks → starts_leaf t l ks ≡ edge
          → pair_in ◌⊕◌ l t ks ≡ pair_in ◌⊕◌ l (t - 1) ks → Heals half C ◌⊕◌ l a b ks (H ks).nodes)
          → {i : ℕ} {es : Nodes (suc l)} → Found (Shaped half B (suc l)) t lo hi es i → 2 ≤ length es
          → starts_leaf t l (get_or es i (no_node (suc l))).subtree ≡ edge
          → pair_in ◌⊕◌ (suc l) t es ≡ pair_in ◌⊕◌ (suc l) (t - 1) es
          → Heals half C ◌⊕◌ (suc l) lo hi es (healed half ◌⊕◌ l edge t i H es).nodes
      go each (found {a = a} {b = b} {xs = xs} {x = x} {ys = ys} before e lt q behind le after) n starts equal =
          subst⁻¹ (λ z. Heals half C ◌⊕◌ (suc l) lo hi (xs ++ x ∷ ys) z.nodes) (healed_at half ◌⊕◌ l edge t H xs x ys)
          (by_start (eqb a t) refl)
        where
          here_starts : starts_leaf t l x.subtree ≡ edge
          here_starts = subst (λ z. starts_leaf t l z.subtree ≡ edge) (get_or-append_seam xs x ys (no_node (suc l))) starts

          by_start : (z : Bool) → eqb a t ≡ z
              → Heals half C ◌⊕◌ (suc l) lo hi (xs ++ x ∷ ys)
              (rebalanced half ◌⊕◌ l (length xs) (H x.subtree) (xs ++ healed_node half ◌⊕◌ l edge t x (H x.subtree) ∷ ys)).nodes
          by_start true h =
              let here : a ≡ t = eqb-true a t h in
              let below : Seg (Shaped half B l) t b x.subtree = subst (λ c. Seg (Shaped half B l) c b x.subtree) here q.1 in
              let joins : true ≡ edge = sym (starts_first half B t l (after high) below) ∙ here_starts in
              subst
              (λ z. Heals half C ◌⊕◌ (suc l) lo hi (xs ++ x ∷ ys)
              (rebalanced half ◌⊕◌ l (length xs) (heal_nodes half ◌⊕◌ z t l x.subtree S)
              (xs ++ healed_node half ◌⊕◌ l z t x (heal_nodes half ◌⊕◌ z t l x.subtree S) ∷ ys)).nodes) joins
              (parted_here l true (λ ks. heal_nodes half ◌⊕◌ true t l ks S) x before e lt q behind le (after high) n equal here low
              (drops two any lawful t keep l x.subtree S (omega (arith, q.0)) (after high) below))
          by_start false h =
              let other : a ≡ t → ⊥ = eqb-false a t h in
              let sooner : a < t = ⊎_elim (λ (k : t ≤ a). absurd (other (omega arith))) (λ (k : a < t). k) (le_or_lt t a) in
              together l edge H x before e lt q behind le (after high) n equal sooner
              (each a b x.subtree (omega (arith, q.0, least_two l)) sooner (after high) q.1 here_starts
              (equal_below l edge H x before e lt q behind le (after high) n equal sooner))
