-- The heal at t away from the edges between pages: no instant's pair is altered, and the shape is kept. Assumes nothing.
use Prim.Native.Nat.{ℕ, zero, suc, ◌-◌, ◌≤◌, ◌<◌}
use mathlib.Core.Path.{◌≡◌, refl, sym, ap, ◌∙◌, subst, subst⁻¹}
use mathlib.Core.Logic.{◌⊎◌, inl, inr}
use mathlib.Core.Bool.{Bool, true, false, cond, ◌&&◌}
use mathlib.Core.List.{List, [], ◌∷◌, ◌++◌}
use native.Mathlib.Omega.{arith}
use lib.Dec.{eqb, ltb, eqb-suc-zero, eqb-suc-suc}
use lib.ListN.{length, get_or, length-append}
use lib.Seq.{get_or-append_seam}
use borrow.Author.Tests.{ltb-true, ltb-false}
use Rattle.rule.specs.declared.Pair.{Pair}
use Rattle.rule.specs.Pairs.{same_pair, Lawful}
use Rattle.rule.specs.Time.{END}
use Rattle.rule.proofs.Tests.{both}
use Rattle.rule.proofs.Laws.{same_pair_is}
use Rattle.page.specs.declared.Entry.{Entry}
use Rattle.page.specs.Layout.{capacity}
use Rattle.page.specs.Entries.{at, index_of}
use Rattle.lists.specs.Lists.{splice}
use Rattle.steps.specs.Heal.{heals, carried}
use Rattle.tree.specs.Tree.{Node, Subtree, Nodes, no_node, flat, Tree, pair_in, pair_at}
use Rattle.tree.specs.Supply.{Supply}
use Rattle.tree.specs.Cut.{State}
use Rattle.tree.specs.Heal.{Healing, rebalance, joins_edge, heal_nodes, collapse_if_single, heal}
use Rattle.tree.specs.Shape.{Asked, Seg, done, more, Filled, Shaped, Formed, root_least}
use Rattle.tree.proofs.Seg.{seg_some, seg_append, least_two}
use Rattle.tree.proofs.Find.{Found, found, find, Beside, first, next, beside}
use Rattle.tree.proofs.Splice.{splice_at, splice_next}
use Rattle.tree.proofs.Same.{Same, with_subtree, same_refl, same_trans, same_within, same_one, same_leaf, same_pair_in, pair_in_one}
use Rattle.tree.proofs.Shapes.{Pairless, Stretchable}
use Rattle.tree.proofs.Push.{pushed_length, pushed_spans, pushed_pair}
use Rattle.tree.proofs.Rebalance.{Heals, rebalance_heals}

-- ---- the step of `heal_nodes` at an inner page

-- whether the entry at i, whose page was healed as r, is rebalanced in fs
module _ (half : ℕ) (◌⊕◌ : Pair → Pair → Pair) (l : ℕ) where
  abbrev pub rebalanced : ℕ → Healing (Subtree l) → Nodes (suc l) → Healing (Subtree (suc l))
  rebalanced i r fs = cond (ltb (length r.nodes) half) (rebalance half ◌⊕◌ l i fs r.supply) (record { nodes = fs; supply = r.supply })

  module _ (edge : Bool) (t : ℕ) where
    -- the entry x once its page is healed as r
    abbrev pub healed_node : Node (Subtree (suc l)) → Healing (Subtree l) → Node (Subtree (suc l))
    healed_node x r = with_subtree (carried edge t (flat r.nodes) x.entry) r.nodes

    abbrev pub healed : ℕ → (Nodes l → Healing (Subtree l)) → Nodes (suc l) → Healing (Subtree (suc l))
    healed i H es =
        let x = get_or es i (no_node (suc l)) in
        rebalanced i (H x.subtree) (splice i (healed_node x (H x.subtree) ∷ []) es)

    pub healed_at : (H : Nodes l → Healing (Subtree l)) (xs : Nodes (suc l)) (x : Node (Subtree (suc l))) (ys : Nodes (suc l))
        → healed (length xs) H (xs ++ x ∷ ys) ≡
        rebalanced (length xs) (H x.subtree) (xs ++ healed_node x (H x.subtree) ∷ ys)
    healed_at H xs x ys =
        ap (λ z. rebalanced (length xs) (H z.subtree) (splice (length xs) (healed_node z (H z.subtree) ∷ []) (xs ++ x ∷ ys)))
        (get_or-append_seam xs x ys (no_node (suc l)))
        ∙ ap (rebalanced (length xs) (H x.subtree)) (splice_at xs x ys (healed_node x (H x.subtree) ∷ []))

-- what heals entries that are the same and as many heals the entries
pub heals_after : {half : ℕ} {B : Asked (Subtree 0)} {◌⊕◌ : Pair → Pair → Pair} {l lo hi : ℕ} {es gs fs : Nodes l}
    → length es ≡ length gs → Same ◌⊕◌ l es gs → Heals half B ◌⊕◌ l lo hi gs fs → Heals half B ◌⊕◌ l lo hi es fs
heals_after n same w =
    record { spans = w.spans; same = same_trans same w.same; least = omega (arith, w); most = omega (arith, w) }

module _ (half : ℕ) (pos : 0 < half) {B : Asked (Subtree 0)} (any : Pairless B) {◌⊕◌ : Pair → Pair → Pair} (lawful : Lawful ◌⊕◌)
    (l : ℕ) where
  -- y, with the page below it healed as r, stands among its neighbours: it is rebalanced if that left it short
  pub settles : {lo a b hi : ℕ} {xs ys : Nodes (suc l)} (y : Node (Subtree (suc l))) (r : Healing (Subtree l)) → y.subtree ≡ r.nodes
      → Seg (Shaped half B (suc l)) lo a xs → y.entry.start ≡ a → a < b → Seg (Shaped half B l) a b y.subtree
      → half ≤ suc (length y.subtree) → length y.subtree ≤ capacity half
      → Seg (Shaped half B (suc l)) b hi ys → 2 ≤ length (xs ++ y ∷ ys)
      → Heals half B ◌⊕◌ (suc l) lo hi (xs ++ y ∷ ys) (rebalanced half ◌⊕◌ l (length xs) r (xs ++ y ∷ ys)).nodes
  unfolding Shaped
  settles {lo} {hi = hi} {xs = xs} {ys = ys} y r is before e lt s least most behind two =
      go (ltb (length r.nodes) half) refl
    where
      go : (z : Bool) → ltb (length r.nodes) half ≡ z
          → Heals half B ◌⊕◌ (suc l) lo hi (xs ++ y ∷ ys)
          (cond z (rebalance half ◌⊕◌ l (length xs) (xs ++ y ∷ ys) r.supply) (record { nodes = xs ++ y ∷ ys; supply = r.supply })).nodes
      go true p =
          let n : length y.subtree ≡ length r.nodes = ap length is in
          let less : length r.nodes < half = ltb-true (length r.nodes) half p in
          rebalance_heals half pos any lawful l y r.supply (beside y ys before) e lt s (omega arith) behind two
      go false p =
          let n : length y.subtree ≡ length r.nodes = ap length is in
          let enough : half ≤ length r.nodes = ltb-false (length r.nodes) half p in
          let fill : Filled half y.subtree = record { least = omega arith; most = most } in
          record {
            spans = seg_append before (more e lt (fill, s) behind);
            same = same_refl (xs ++ y ∷ ys);
            least = omega arith;
            most = omega arith;
          }

  -- away from an edge: the page of the entry that has t is healed by H, and turns if that leaves it short
  pub page_heals : {lo hi : ℕ} {es : Nodes (suc l)} (t : ℕ) (H : Nodes l → Healing (Subtree l))
      → ((a b : ℕ) (ks : Nodes l) → half ≤ length ks → a ≤ t → a < b → Seg (Shaped half B l) a b ks
      → Heals half B ◌⊕◌ l a b ks (H ks).nodes)
      → 2 ≤ length es → lo ≤ t → lo < hi → Seg (Shaped half B (suc l)) lo hi es
      → Heals half B ◌⊕◌ (suc l) lo hi es (healed half ◌⊕◌ l false t (index_of t (flat es)) H es).nodes
  unfolding Shaped carried
  page_heals {lo} {hi} t H each two low lt s = go (find t s lt low) two
    where
      go : {es : Nodes (suc l)} {i : ℕ} → Found (Shaped half B (suc l)) t lo hi es i → 2 ≤ length es
          → Heals half B ◌⊕◌ (suc l) lo hi es (healed half ◌⊕◌ l false t i H es).nodes
      go (found {a = a} {b = b} {xs = xs} {x = x} {ys = ys} before e lt q behind le after) two =
          let h = each a b x.subtree q.0.least le lt q.1 in
          let y = with_subtree x.entry (H x.subtree).nodes in
          let n : length (xs ++ x ∷ ys) ≡ length (xs ++ y ∷ ys) = simp length-append in
          subst⁻¹ (λ z. Heals half B ◌⊕◌ (suc l) lo hi (xs ++ x ∷ ys) z.nodes) (healed_at half ◌⊕◌ l false t H xs x ys)
          (heals_after n (same_within xs ys (same_one ◌⊕◌ l x.entry e lt q.1 h.spans h.same))
          (settles y (H x.subtree) refl before e lt h.spans (omega (arith, h, q.0)) (omega (arith, h, q.0)) behind
          (omega arith)))

-- ---- a leaf's entry that goes

heals_is : (t : ℕ) (es : List Entry) (i : ℕ) → heals t es i ≡ true → (at es i).pair ≡ (at es (i - 1)).pair
unfolding heals
heals_is t es i h =
    ((both (ltb 0 i) (eqb (at es i).start t && same_pair (at es i).pair (at es (i - 1)).pair) (λ z. z, λ z. z)
    (both (eqb (at es i).start t) (same_pair (at es i).pair (at es (i - 1)).pair) (λ z. z, λ z. z)
    (same_pair_is (at es i).pair (at es (i - 1)).pair))).0 h).1.1

pub flat_first : {A : Type 0} (pre : List (Node A)) (y : Node A) (ys : List (Node A)) → at (flat (pre ++ y ∷ ys)) (length pre) ≡ y.entry
flat_first [] y ys = refl
flat_first (z ∷ pre) y ys = flat_first pre y ys

pub flat_next : {A : Type 0} (pre : List (Node A)) (y x : Node A) (ys : List (Node A))
    → at (flat (pre ++ y ∷ x ∷ ys)) (suc (length pre)) ≡ x.entry
flat_next [] y x ys = refl
flat_next (z ∷ pre) y x ys = flat_next pre y x ys

module _ (half : ℕ) (B : Asked (Subtree 0)) (◌⊕◌ : Pair → Pair → Pair) where
  pub heals_refl : {l lo hi : ℕ} {es : Nodes l} → Seg (Shaped half B l) lo hi es → Heals half B ◌⊕◌ l lo hi es es
  heals_refl {es = es} s = record { spans = s; same = same_refl es; least = omega arith; most = omega arith }

  -- x goes, whose pair is that of y before it
  pub leaf_joined : {lo m a b hi : ℕ} {pre ys : Nodes 0} (y x : Node (Subtree 0)) → Stretchable B → x.entry.pair ≡ y.entry.pair
      → Seg (Shaped half B 0) lo m pre → y.entry.start ≡ m → m < a → Shaped half B 0 m a y
      → x.entry.start ≡ a → a < b → Seg (Shaped half B 0) b hi ys
      → Heals half B ◌⊕◌ 0 lo hi (pre ++ y ∷ x ∷ ys) (splice (suc (length pre)) [] (pre ++ y ∷ x ∷ ys))
  unfolding Shaped
  leaf_joined {lo} {m} {a} {b} {hi} {pre} {ys} y x longer pairs before f lt p e lt' behind =
      let whole : m < b = omega arith in
      subst⁻¹ (Heals half B ◌⊕◌ 0 lo hi (pre ++ y ∷ x ∷ ys)) (splice_next pre y x ys [])
      (record {
        spans = seg_append before (more f whole (longer.stretched m a b y lt (omega arith) p) behind);
        same = same_within pre ys (same_leaf ◌⊕◌ y x (omega arith) pairs);
        least = simp length-append (omega arith);
        most = simp length-append (omega arith);
      })

module _ (half : ℕ) (B : Asked (Subtree 0)) (longer : Stretchable B) (◌⊕◌ : Pair → Pair → Pair) (t : ℕ) where
  abbrev gone : ℕ → Nodes 0 → Nodes 0
  gone i es = cond (heals t (flat es) i) (splice i [] es) es

  leaf_gone : {lo a b hi i : ℕ} {es ys : Nodes 0} (x : Node (Subtree 0)) → Beside (Shaped half B 0) x ys lo a es i
      → x.entry.start ≡ a → a < b
      → Shaped half B 0 a b x → Seg (Shaped half B 0) b hi ys → Heals half B ◌⊕◌ 0 lo hi es (gone i es)
  unfolding Shaped heals
  leaf_gone x first e lt q behind = heals_refl half B ◌⊕◌ (more e lt q behind)
  leaf_gone {lo} {a} {b} {hi} {ys = ys} x (next {mid = m} {pre = pre} {y = y} before f lt' p) e lt q behind =
      go (heals t (flat es) (suc (length pre))) refl
    where
      es : Nodes 0
      es = pre ++ y ∷ x ∷ ys

      go : (z : Bool) → heals t (flat es) (suc (length pre)) ≡ z → Heals half B ◌⊕◌ 0 lo hi es (cond z (splice (suc (length pre)) [] es) es)
      go true h =
          let pairs : x.entry.pair ≡ y.entry.pair =
          ap (λ w. w.pair) (sym (flat_next pre y x ys))
          ∙ (heals_is t (flat es) (suc (length pre)) h
          ∙ ap (λ w. w.pair) (ap (at (flat es)) (omega arith) ∙ flat_first pre y (x ∷ ys))) in
          leaf_joined half B ◌⊕◌ y x longer pairs before f lt' p e lt behind
      go false h = heals_refl half B ◌⊕◌ (seg_append before (more f lt' p (more e lt q behind)))

  leaf_heals : {lo hi : ℕ} {es : Nodes 0} → lo ≤ t → lo < hi → Seg (Shaped half B 0) lo hi es
      → Heals half B ◌⊕◌ 0 lo hi es (gone (index_of t (flat es)) es)
  leaf_heals {lo} {hi} low lt s = go (find t s lt low)
    where
      go : {es : Nodes 0} {i : ℕ} → Found (Shaped half B 0) t lo hi es i → Heals half B ◌⊕◌ 0 lo hi es (gone i es)
      go (found {x = x} {ys = ys} before e lt q behind le after) = leaf_gone x (beside x ys before) e lt q behind

-- ---- by the level

module _ {half : ℕ} (two : 2 ≤ half) {B : Asked (Subtree 0)} (any : Pairless B) (longer : Stretchable B) {◌⊕◌ : Pair → Pair → Pair}
    (lawful : Lawful ◌⊕◌) (t : ℕ) where
  -- where no edge joins
  pub nodes_heal : (l : ℕ) {lo hi : ℕ} (es : Nodes l) (S : Supply) → root_least l ≤ length es → lo ≤ t → lo < hi
      → Seg (Shaped half B l) lo hi es
      → Heals half B ◌⊕◌ l lo hi es (heal_nodes half ◌⊕◌ false t l es S).nodes
  unfolding heal_nodes root_least
  nodes_heal zero es S n low lt s = leaf_heals half B longer ◌⊕◌ t low lt s
  nodes_heal (suc l) es S n low lt s =
      page_heals half (omega arith) any lawful l t (λ ks. heal_nodes half ◌⊕◌ false t l ks S)
      (λ a b ks f low lt s. nodes_heal l ks S (omega (arith, least_two l)) low lt s) n low lt s
