-- The runs of a tree's leaf entries follow each other over all instants, each with what its instants answer; so neighbouring leaf entries
-- have different totals exactly where no two neighbouring runs have the same pair. Assumes nothing.
use Prim.Native.Nat.{ℕ, zero, suc, ◌≤◌, ◌<◌}
use mathlib.Core.Path.{◌≡◌, refl, sym, ap, ◌∙◌, subst, subst⁻¹}
use mathlib.Core.Logic.{◌↔◌}
use mathlib.Core.Bool.{true}
use mathlib.Core.List.{List, [], ◌∷◌, ◌++◌, map}
use native.Mathlib.Omega.{arith}
use Rattle.lists.specs.Lists.{concat_map, All, all_none, all_more}
use Rattle.lists.proofs.All.{all_head, all_append, all_left, all_right, all_map, all_unmap}
use Rattle.rule.specs.declared.Pair.{Pair}
use Rattle.rule.specs.Time.{END}
use Rattle.image.specs.Listing.{Run, neighbours_differ}
use Rattle.image.proofs.Tiles.{Tiles, done, tiles_one, tiles_append, tiles_map, tiles_weaken, Turns, neighbours_turn}
use Rattle.tree.specs.Tree.{Node, Subtree, Nodes, Tree, pair_under, pair_in, pair_at}
use Rattle.tree.specs.Shape.{Asked, Seg, done as seg_done, more, Shaped, Leaf, Formed, Differs, Distinct}
use Rattle.tree.specs.Runs.{runs_under, runs_in, runs_of}
use Rattle.tree.proofs.Seg.{seg_le}
use Rattle.tree.proofs.Same.{pair_in_back}
use Rattle.tree.proofs.Edge.{pair_found}

module _ (half : ℕ) (◌⊕◌ : Pair → Pair → Pair) where
  infixl 60 ◌⊕◌
  -- ---- the runs tile the span

  module _ (B : Asked (Subtree 0)) where
    -- entries one behind another, if each one's runs tile its span
    seg_tiles : (l : ℕ) {lo hi : ℕ} {es : Nodes l}
        → ((a b : ℕ) (x : Node (Subtree l)) → x.entry.start ≡ a → a < b → Shaped half B l a b x
        → Tiles (λ u p. pair_under ◌⊕◌ l u x ≡ p) a b (runs_under ◌⊕◌ l x))
        → Seg (Shaped half B l) lo hi es → Tiles (λ u p. pair_in ◌⊕◌ l u es ≡ p) lo hi (runs_in ◌⊕◌ l es)
    unfolding runs_in concat_map
    seg_tiles l each seg_done = done
    seg_tiles l {lo} {hi} each (more {mid = mid} {x = x} {es = es} e lt q r) =
        tiles_append
        (tiles_weaken (each lo mid x e lt q) (λ u p low high h. pair_found ◌⊕◌ l x u seg_done e lt q r low high ∙ h))
        (tiles_weaken (seg_tiles l each r)
        (λ u p low high h. pair_in_back ◌⊕◌ l {es = x ∷ []} (more e lt q seg_done) r (omega arith) u low ∙ h))

    tiles : (l : ℕ) {lo hi : ℕ} {es : Nodes l} → Seg (Shaped half B l) lo hi es
        → Tiles (λ u p. pair_in ◌⊕◌ l u es ≡ p) lo hi (runs_in ◌⊕◌ l es)
    unfolding runs_under pair_under Shaped runs_in pair_in
    tiles zero s = seg_tiles 0 (λ a b x e lt q. tiles_one e lt (λ t low high. refl)) s
    tiles (suc l) s =
        seg_tiles (suc l)
        (λ a b x e lt q. tiles_map (λ p. x.entry.pair ⊕ p) (tiles l q.1) (λ u p low high h. ap (λ z. x.entry.pair ⊕ z) h)) s

  -- ---- what is asked of each start

  module _ (P : ℕ → Type 0) where
    -- of a leaf entry, its start besides
    abbrev Also : Asked (Subtree 0)
    Also lo hi x = Leaf lo hi x × P lo

    seg_starts : (l : ℕ) {lo hi : ℕ} {es : Nodes l}
        → ((a b : ℕ) (x : Node (Subtree l)) → x.entry.start ≡ a → Shaped half Also l a b x → All (λ r. P r.start) (runs_under ◌⊕◌ l x))
        → Seg (Shaped half Also l) lo hi es → All (λ r. P r.start) (runs_in ◌⊕◌ l es)
    unfolding runs_in concat_map
    seg_starts l each seg_done = all_none
    seg_starts l {lo} each (more {mid = mid} {x = x} e lt q r) = all_append (each lo mid x e q) (seg_starts l each r)

    starts : (l : ℕ) {lo hi : ℕ} {es : Nodes l} → Seg (Shaped half Also l) lo hi es → All (λ r. P r.start) (runs_in ◌⊕◌ l es)
    unfolding runs_under Shaped runs_in
    starts zero s = seg_starts 0 (λ a b x e q. all_more (subst⁻¹ P e q.1) all_none) s
    starts (suc l) s = seg_starts (suc l) (λ a b x e q. all_map _ (λ r h. h) (starts l q.1)) s

    seg_also : (l : ℕ) {lo hi : ℕ} {es : Nodes l}
        → ((a b : ℕ) (x : Node (Subtree l)) → x.entry.start ≡ a → Shaped half Leaf l a b x → All (λ r. P r.start) (runs_under ◌⊕◌ l x)
        → Shaped half Also l a b x)
        → Seg (Shaped half Leaf l) lo hi es → All (λ r. P r.start) (runs_in ◌⊕◌ l es) → Seg (Shaped half Also l) lo hi es
    unfolding runs_in concat_map
    seg_also l each seg_done a = seg_done
    seg_also l {lo} each (more {mid = mid} {x = x} {es = es} e lt q r) a =
        more e lt (each lo mid x e q (all_left (runs_under ◌⊕◌ l x) (runs_in ◌⊕◌ l es) a))
        (seg_also l each r (all_right (runs_under ◌⊕◌ l x) (runs_in ◌⊕◌ l es) a))

    also : (l : ℕ) {lo hi : ℕ} {es : Nodes l} → Seg (Shaped half Leaf l) lo hi es → All (λ r. P r.start) (runs_in ◌⊕◌ l es)
        → Seg (Shaped half Also l) lo hi es
    unfolding runs_under Shaped runs_in
    also zero s a = seg_also 0 (λ c b x e q h. (q, subst P e (all_head h))) s a
    also (suc l) s a = seg_also (suc l) (λ c b x e q h. (q.0, also l q.1 (all_unmap _ (λ r k. k) _ h))) s a

  -- ---- the whole tree

  pub distinct_runs : (T : Tree) → Formed half Leaf T → Distinct half ◌⊕◌ T ↔ (neighbours_differ (runs_of ◌⊕◌ T) ≡ true)
  unfolding Distinct
  distinct_runs T F =
      let w = neighbours_turn (pair_at ◌⊕◌ T) (tiles Leaf T.level F.spans) in (
        λ D. w.1 (starts (Differs (pair_at ◌⊕◌ T)) T.level D.spans),
        λ e. record { least = F.least; most = F.most; spans = also (Differs (pair_at ◌⊕◌ T)) T.level F.spans (w.0 e) },
      )
