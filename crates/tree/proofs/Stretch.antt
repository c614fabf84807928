-- Entries whose last one ends later, as those to the left of an edge that joins: they keep their shape, and from the last start on every
-- instant finds the same pair. And what holds of leaf entries that don't start at t. Assumes nothing.
use Prim.Native.Nat.{ℕ, zero, suc, ◌-◌, ◌≤◌, ◌<◌}
use mathlib.Core.Path.{◌≡◌, refl, sym, ap, ◌∙◌}
use mathlib.Core.Logic.{◌⊎◌, inl, inr, ⊎_elim}
use mathlib.Core.List.{List, [], ◌∷◌, ◌++◌}
use native.Mathlib.Omega.{arith}
use Rattle.rule.specs.declared.Pair.{Pair}
use Rattle.rule.specs.Pairs.{none}
use Rattle.tree.specs.Tree.{Node, Subtree, Nodes, node_of, pair_under, pair_in}
use Rattle.tree.specs.Shape.{Asked, Seg, done, more, Shaped}
use Rattle.tree.proofs.Seg.{from_yes, seg_le, seg_spans}
use Rattle.tree.proofs.Look.{look, pair_in_look}
use Rattle.tree.proofs.Shapes.{Stretchable, shaped_spans}

-- ---- a later end

module _ {A : Type 0} {Q : Asked A} where
  pub seg_stretch : {lo hi end : ℕ} {es : List (Node A)} → ((a : ℕ) (x : Node A) → a < hi → Q a hi x → Q a end x) → lo < hi → hi ≤ end
      → Seg Q lo hi es → Seg Q lo end es
  seg_stretch f lt le done = absurd (omega arith)
  seg_stretch {end = end} f lt le (more {lo} {x = x} e l q done) = more {mid = end} e (omega arith) (f lo x l q) done
  seg_stretch f lt le (more e l q (more e' l' q' r)) = more e l q (seg_stretch f (omega (arith, seg_le r)) le (more e' l' q' r))

  -- from the last start on, f of the last entry
  pub look_late : {B : Type 0} {lo hi : ℕ} {es : List (Node A)} (f g : Node A → B) (u v : ℕ) (d d' : B)
      → ((a : ℕ) (x : Node A) → a < hi → Q a hi x → f x ≡ g x) → hi ≤ suc u → hi ≤ suc v → lo < hi → Seg Q lo hi es
      → look f u d es ≡ look g v d' es
  unfolding look
  look_late f g u v d d' same late late' lt done = absurd (omega arith)
  look_late f g u v d d' same late late' lt (more {lo} {x = x} e l q done) =
      let h : x.entry.start ≤ u = omega arith in
      let k : x.entry.start ≤ v = omega arith in
      from_yes (f x) d h ∙ (same lo x l q ∙ sym (from_yes (g x) d' k))
  look_late f g u v d d' same late late' lt (more e l q (more e' l' q' r)) =
      look_late f g u v _ _ same late late' (omega (arith, seg_le r)) (more e' l' q' r)

module _ (half : ℕ) (B : Asked (Subtree 0)) where
  pub shaped_stretch : Stretchable B → (l lo hi end : ℕ) (x : Node (Subtree l)) → lo < hi → hi ≤ end → Shaped half B l lo hi x
      → Shaped half B l lo end x
  unfolding Shaped
  shaped_stretch longer zero lo hi end x lt le q = longer.stretched lo hi end x lt le q
  shaped_stretch longer (suc l) lo hi end x lt le q =
      (q.0, seg_stretch (λ a y lt k. shaped_stretch longer l a hi end y lt le k) lt le q.1)

  module _ (◌⊕◌ : Pair → Pair → Pair) where
    -- from the last start on, every instant finds the last leaf entry
    pub pair_in_late : (l : ℕ) {lo hi : ℕ} {es : Nodes l} (u v : ℕ) → hi ≤ suc u → hi ≤ suc v → lo < hi → Seg (Shaped half B l) lo hi es
        → pair_in ◌⊕◌ l u es ≡ pair_in ◌⊕◌ l v es
    unfolding pair_in pair_under Shaped
    pair_in_late zero u v late late' lt s =
        pair_in_look ◌⊕◌ 0 u none s lt (omega arith)
        ∙ (look_late (pair_under ◌⊕◌ 0 u) (pair_under ◌⊕◌ 0 v) u v none none (λ a x h q. refl) late late' lt s
        ∙ sym (pair_in_look ◌⊕◌ 0 v none s lt (omega arith)))
    pair_in_late (suc l) u v late late' lt s =
        pair_in_look ◌⊕◌ (suc l) u none s lt (omega arith)
        ∙ (look_late (pair_under ◌⊕◌ (suc l) u) (pair_under ◌⊕◌ (suc l) v) u v none none
        (λ a x h q. ap (λ z. ◌⊕◌ x.entry.pair z) (pair_in_late l u v late late' h q.1)) late late' lt s
        ∙ sym (pair_in_look ◌⊕◌ (suc l) v none s lt (omega arith)))

-- ---- leaf entries that don't start at t

-- entries that all end at t or before, or start behind it
pub seg_keep : (half t : ℕ) {B C : Asked (Subtree 0)} → ((a b : ℕ) (x : Node (Subtree 0)) → (a ≡ t → ⊥) → B a b x → C a b x)
    → (l : ℕ) {lo hi : ℕ} {es : Nodes l} → (hi ≤ t) ⊎ (t < lo) → Seg (Shaped half B l) lo hi es → Seg (Shaped half C l) lo hi es
seg_keep half t keep l away =
    seg_spans (λ a b y low lt high. shaped_spans half l a b y lt
    (λ c d z p k r. keep c d z (λ e. ⊎_elim (λ h. omega arith) (λ h. omega arith) away)))
