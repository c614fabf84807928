-- Whether an edge joins is told where the ways to t and to t − 1 part: a page that starts at t leads to a leaf that does, and the pairs
-- above are on both ways. Assumes nothing.
use Prim.Native.Nat.{ℕ, zero, suc, ◌-◌, ◌≤◌, ◌<◌}
use mathlib.Core.Path.{◌≡◌, refl, sym, ap, ◌∙◌, subst, subst⁻¹}
use mathlib.Core.Bool.{Bool, true, false, cond, ◌&&◌}
use mathlib.Core.List.{List}
use native.Mathlib.Decide.{dec_lt}
use native.Mathlib.Omega.{arith}
use lib.Dec.{eqb, ltb}
use borrow.Author.Tests.{eqb-true, eqb-false, eq-eqb, ne_eqb, lt-ltb, le-ltb}
use Rattle.rule.specs.declared.Pair.{Pair}
use Rattle.rule.specs.Pairs.{same_pair, combine}
use Rattle.rule.proofs.Laws.{lawful, kind_inverse, same_above}
use Rattle.page.specs.declared.Entry.{Entry}
use Rattle.page.specs.Entries.{at, index_of}
use Rattle.image.specs.Images.{Image}
use Rattle.steps.specs.Supply.{entries}
use Rattle.steps.specs.Heal.{starts_leaf, total_from, joins_edge}
use Rattle.heal.specs.Edges.{total_under, edge_met}
use Rattle.tree.specs.Tree.{Node, Subtree, node_of}
use Rattle.tree.specs.Cut.{State, root_node}
use Rattle.tree.specs.Shape.{Asked, Seg, Shaped, Leaf}
use Rattle.tree.proofs.Seg.{seg_lt}
use Rattle.tree.proofs.Find.{Has, find_node}
use Rattle.tree.proofs.Edge.{starts_first}
use Rattle.refinement.specs.Represents.{Stores, Stocked, Full}
use Rattle.refinement.proofs.Paths.{there, has_index, stocked_on, stores_on, from_root}
use Rattle.refinement.proofs.Edges.{entry_there, starts_leaf_is}
use Rattle.refinement.proofs.Formed.{formed_full}
use Rattle.refinement.proofs.Ways.{wide, first_start, index_first, index_together, index_parted}
use Rattle.invariant.specs.Invariant.{Structure}

module _ (half : ℕ) (B : Asked (Subtree 0)) (◌⊕◌ : Pair → Pair → Pair)
    (above : (p q r : Pair) → same_pair (◌⊕◌ p q) (◌⊕◌ p r) ≡ same_pair q r) (t : ℕ) (X : Image) where
  -- a page that starts at t has no edge there
  edge_first : (l : ℕ) {lo hi : ℕ} (x : Node (Subtree (suc l))) → Stocked (suc l) x → Stores (suc l) X.page x
      → Seg (Shaped half B l) lo hi x.subtree
      → lo ≡ t
      → edge_met ◌⊕◌ t l x.entry.child X ≡ false
  unfolding edge_met
  edge_first zero x k s spans e = refl
  edge_first (suc l) x k s spans e =
      rw (
        index_first (suc l) t X x k s spans e,
        eq-eqb (at (entries X x.entry.child) 0).start t (first_start (suc l) t X x k s spans ∙ e),
      )

  abbrev EdgeIs : ℕ → ℕ → Type 0
  EdgeIs l p = edge_met ◌⊕◌ t l p X ≡ (starts_leaf t l p X && same_pair (total_from ◌⊕◌ t l p X) (total_from ◌⊕◌ (t - 1) l p X))

  edge_up : (l : ℕ) {lo hi : ℕ} (x : Node (Subtree (suc (suc l)))) → Stocked (suc (suc l)) x → Stores (suc (suc l)) X.page x
      → Seg (Shaped half B (suc l)) lo hi x.subtree
      → lo < t
      → ((there (suc l) t x.subtree).entry.start < t → EdgeIs l (there (suc l) t x.subtree).entry.child)
      → EdgeIs (suc l) x.entry.child
  unfolding edge_met starts_leaf total_from Shaped node_of
  edge_up l {lo} {hi} x k s spans low below = go (eqb e.start t) refl
    where
      es : List Entry
      es = entries X x.entry.child

      i : ℕ
      i = index_of t es

      e : Entry
      e = at es i

      y : Node (Subtree (suc l))
      y = there (suc l) t x.subtree

      is : e ≡ y.entry
      is = entry_there t (suc l) X x s

      f : Has (Shaped half B (suc l)) t hi y
      f = find_node (suc l) t spans (wide (suc l) t X x k s spans) (omega arith)

      begun : e.start ≤ t
      begun = let same : e.start ≡ y.entry.start = ap (λ (z : Entry). z.start) is in omega (arith, f.begun)

      -- an entry that starts at t isn't the first, which starts before it
      later : Dec (0 < i) → e.start ≡ t → 0 < i
      later (yes h) here = h
      later (no h) here =
          let none : i ≡ 0 = omega arith in
          let same : e.start ≡ lo = ap (λ (n : ℕ). (at es n).start) none ∙ first_start (suc l) t X x k s spans in
          absurd (omega arith)

      -- and it leads to a leaf that starts there
      leads : e.start ≡ t → starts_leaf t l e.child X ≡ true
      leads here =
          let k' = stocked_on (suc l) t x k in
          let there_too : y.entry.start ≡ t = sym (ap (λ (z : Entry). z.start) is) ∙ here in
          let wide_below : y.entry.start < f.end = seg_lt f.holds.1 (omega (arith, has_index l t y k')) in
          ap (λ (z : Entry). starts_leaf t l z.child X) is
          ∙ starts_leaf_is t l X y k' (stores_on (suc l) t x k X s)
          ∙ starts_first half B t l (omega arith) (subst (λ (a : ℕ). Seg (Shaped half B l) a f.end y.subtree) there_too f.holds.1)

      -- the whole test, where the total at t − 1 is that under the n-th entry
      whole : ℕ → Bool
      whole n = starts_leaf t l e.child X && same_pair (total_under ◌⊕◌ t l e X) (total_under ◌⊕◌ (t - 1) l (at es n) X)

      -- where the ways go on together, the pair of e is on both
      goes_on : e.start < t → edge_met ◌⊕◌ t l e.child X ≡ whole i
      goes_on early =
          let same : e.start ≡ y.entry.start = ap (λ (z : Entry). z.start) is in
          subst⁻¹ (λ (z : Entry). EdgeIs l z.child) is (below (omega arith))
          ∙ ap (λ (b : Bool). starts_leaf t l e.child X && b)
          (sym (above e.pair (total_from ◌⊕◌ t l e.child X) (total_from ◌⊕◌ (t - 1) l e.child X)))

      go : (b : Bool) → eqb e.start t ≡ b
          → cond b (ltb 0 i && same_pair (total_under ◌⊕◌ t l e X) (total_under ◌⊕◌ (t - 1) l (at es (i - 1)) X))
          (edge_met ◌⊕◌ t l e.child X) ≡
          whole (index_of (t - 1) es)
      go true h =
          let here : e.start ≡ t = eqb-true e.start t h in
          let some : 0 < i = later (dec_lt 0 i) here in
          ap (λ (b : Bool). b && same_pair (total_under ◌⊕◌ t l e X) (total_under ◌⊕◌ (t - 1) l (at es (i - 1)) X))
          (lt-ltb 0 i some ∙ sym (leads here))
          ∙ ap whole (sym (index_parted (suc l) t X x k s spans here some))
      go false h =
          let other : e.start ≡ t → ⊥ = eqb-false e.start t h in
          let early : e.start < t = omega (arith, begun, other) in
          goes_on early ∙ ap whole (sym (index_together (suc l) t X x k s spans early))

  edge_is : (l : ℕ) {lo hi : ℕ} (x : Node (Subtree (suc l))) → Stocked (suc l) x → Stores (suc l) X.page x
      → Seg (Shaped half B l) lo hi x.subtree
      → lo < t
      → EdgeIs l x.entry.child
  unfolding edge_met starts_leaf Shaped node_of
  edge_is zero x k s spans low =
      rw (ne_eqb (at (entries X x.entry.child) 0).start t (λ e. omega (arith, first_start 0 t X x k s spans)))
  edge_is (suc l) x k s spans low =
      let y = there (suc l) t x.subtree in
      let f : Has (Shaped half B (suc l)) t _ y = find_node (suc l) t spans (wide (suc l) t X x k s spans) (omega arith) in
      edge_up l x k s spans low (edge_is l y (stocked_on (suc l) t x k) (stores_on (suc l) t x k X s) f.holds.1)

  -- of a page from 0 on
  edge_from_zero : (l : ℕ) {hi : ℕ} (x : Node (Subtree (suc l))) → Stocked (suc l) x → Stores (suc l) X.page x
      → Seg (Shaped half B l) 0 hi x.subtree
      → (ltb 0 t
      && (starts_leaf t l x.entry.child X
      && same_pair (total_from ◌⊕◌ t l x.entry.child X) (total_from ◌⊕◌ (t - 1) l x.entry.child X))) ≡
      edge_met ◌⊕◌ t l x.entry.child X
  edge_from_zero l x k s spans = go (dec_lt 0 t)
    where
      p : ℕ
      p = x.entry.child

      go : Dec (0 < t)
          → (ltb 0 t && (starts_leaf t l p X && same_pair (total_from ◌⊕◌ t l p X) (total_from ◌⊕◌ (t - 1) l p X))) ≡
          edge_met ◌⊕◌ t l p X
      go (yes h) = rw (lt-ltb 0 t h) (sym (edge_is l x k s spans h))
      go (no h) = rw (le-ltb 0 t (omega arith)) (sym (edge_first l x k s spans (omega arith)))

pub structure_joins : {half kind changes : ℕ} {X : Image} {Y : State} → 2 ≤ half → (t : ℕ) → Structure half kind changes X Y
    → joins_edge (combine kind) t X ≡ (eqb kind 1 && edge_met (combine kind) t (X.head.height - 1) X.head.root X)
unfolding joins_edge root_node Full
structure_joins {half} {kind} {X = X} {Y = Y} two t g =
    ap (λ (n : ℕ). eqb n 1 && test (X.head.height - 1) X.head.root) g.kind_is ∙ go (eqb kind 1) refl
  where
    test : ℕ → ℕ → Bool
    test n p =
        ltb 0 t && (starts_leaf t n p X && same_pair (total_from (combine kind) t n p X) (total_from (combine kind) (t - 1) n p X))

    met : ℕ → ℕ → Bool
    met n p = edge_met (combine kind) t n p X

    cancels : eqb kind 1 ≡ true → (p q r : Pair) → same_pair (combine kind p q) (combine kind p r) ≡ same_pair q r
    cancels e = same_above (lawful kind) (kind_inverse kind e)

    go : (b : Bool) → eqb kind 1 ≡ b
        → (b && test (X.head.height - 1) X.head.root) ≡ (b && met (X.head.height - 1) X.head.root)
    go false e = refl
    go true e =
        from_root g.shown test
        ∙ edge_from_zero half Leaf (combine kind) (cancels e) t X Y.tree.level (root_node Y.tree)
        (formed_full half Leaf two Y g.formed) g.shown.below g.formed.spans
        ∙ sym (from_root g.shown met)
