-- How many pages a tree has at the most, by its leaf entries: every page but the root has half the capacity or more. Assumes nothing.
use Prim.Native.Nat.{ℕ, zero, suc, ◌+◌, ◌*◌, ◌-◌, ◌≤◌}
use mathlib.Core.Path.{◌≡◌, ap, ◌∙◌}
use mathlib.Core.List.{List, [], ◌∷◌, ◌++◌, map}
use native.Mathlib.Nat.{mul-zero, mul-suc, mul-add}
use native.Mathlib.Omega.{arith}
use lib.ListN.{length, length-append, length-map}
use Rattle.lists.specs.Lists.{concat_map}
use Rattle.rule.specs.declared.Pair.{Pair}
use Rattle.image.specs.Listing.{Run}
use Rattle.tree.specs.Tree.{Node, Subtree, Nodes, Tree, pages_under}
use Rattle.tree.specs.Shape.{Asked, Seg, done, more, Shaped, Formed}
use Rattle.tree.specs.Runs.{runs_under, runs_in, runs_of}
use Rattle.tree.specs.Counts.{pages_of}

module _ (half : ℕ) (B : Asked (Subtree 0)) (◌⊕◌ : Pair → Pair → Pair) where
  abbrev below : (l : ℕ) → Nodes l → List ℕ
  below l es = concat_map (λ x. pages_under l x) es

  -- entries one behind another, if it holds of each
  seg_few : (l : ℕ) {lo hi : ℕ} {es : Nodes l}
      → ((a b : ℕ) (x : Node (Subtree l)) → Shaped half B l a b x
      → (half - 1) * length (pages_under l x) + 1 ≤ length (runs_under ◌⊕◌ l x))
      → Seg (Shaped half B l) lo hi es → (half - 1) * length (below l es) + length es ≤ length (runs_in ◌⊕◌ l es)
  unfolding runs_in concat_map
  seg_few l each done = omega (arith, mul-zero (half - 1))
  seg_few l {lo} each (more {mid = mid} {x = x} {es = es} e lt q r) =
      let n : length (pages_under l x ++ below l es) ≡ length (pages_under l x) + length (below l es) =
      length-append (pages_under l x) (below l es) in
      let p : (half - 1) * length (pages_under l x ++ below l es)
      ≡ (half - 1) * length (pages_under l x) + (half - 1) * length (below l es) =
      ap (λ k. (half - 1) * k) n ∙ mul-add (half - 1) (length (pages_under l x)) (length (below l es)) in
      omega (arith, p, each lo mid x q, seg_few l each r, length-append (runs_under ◌⊕◌ l x) (runs_in ◌⊕◌ l es))

  few : (l : ℕ) {lo hi : ℕ} {es : Nodes l} → 1 ≤ half → Seg (Shaped half B l) lo hi es
      → (half - 1) * length (below l es) + length es ≤ length (runs_in ◌⊕◌ l es)
  unfolding Shaped pages_under runs_under runs_in
  few zero some s = seg_few 0 (λ a b x q. omega (arith, mul-zero (half - 1))) s
  few (suc l) some s =
      seg_few (suc l)
      (λ a b x q.
      let above : Run → Run = λ r. record { start = r.start; pair = ◌⊕◌ x.entry.pair r.pair } in
      let n : length (map above (runs_in ◌⊕◌ l x.subtree)) ≡ length (runs_in ◌⊕◌ l x.subtree) =
      length-map (runs_in ◌⊕◌ l x.subtree) above in
      omega (arith, mul-suc (half - 1) (length (below l x.subtree)), q.0.least, few l some q.1, n))
      s

  pub tree_few : (T : Tree) → 1 ≤ half → Formed half B T
      → (half - 1) * (length (pages_of T) - 1) + length T.nodes ≤ length (runs_of ◌⊕◌ T)
  unfolding pages_of
  tree_few T some F =
      let one : suc (length (below T.level T.nodes)) - 1 ≡ length (below T.level T.nodes) = omega arith in
      omega (arith, ap (λ k. (half - 1) * k) one, few T.level some F.spans)
