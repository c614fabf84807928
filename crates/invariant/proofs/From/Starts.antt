-- The start that an instant call tells is that of the tree's leaf entry, and what is asked of every leaf entry's start holds of it. Assumes
-- nothing.
use Prim.Native.Nat.{ℕ, zero, suc, ◌-◌, ◌≤◌, ◌<◌}
use mathlib.Core.Path.{◌≡◌, sym, ap, ◌∙◌}
use mathlib.Core.Bool.{true}
use mathlib.Core.List.{List}
use native.Mathlib.Omega.{arith}
use Rattle.rule.specs.Pairs.{combine}
use Rattle.page.specs.declared.Entry.{Entry}
use Rattle.page.specs.declared.Head.{Head}
use Rattle.page.specs.Entries.{index_of}
use Rattle.page.specs.Layout.{start_at, child_at, entry_at, entries_of, free_level}
use Rattle.page.specs.Fit.{PageContext, root_context, context_below, fewest}
use Rattle.image.specs.Images.{page_at, image_of}
use Rattle.image.specs.Sound.{tree_fit}
use Rattle.image.specs.Instant.{leaf_answer, above, look_by, look, look_up}
use Rattle.tree.specs.Tree.{Node, Subtree, Nodes, node_of}
use Rattle.tree.specs.Cut.{State, root_node}
use Rattle.tree.specs.Shape.{Seg, Shaped, Leaf}
use Rattle.tree.proofs.Seg.{least_one}
use Rattle.tree.proofs.Find.{find_node}
use Rattle.refinement.specs.Represents.{Stores, Represents}
use Rattle.soundness.proofs.Tree.{tree_parts, tree_top, top_fit}
use Rattle.soundness.proofs.Sound.{the_head, SoundFacts}
use Rattle.invariant.proofs.From.Shape.{root_fewest}
use Rattle.invariant.proofs.From.Look.{step, deeper}

-- the start of the leaf entry that has t, below an entry
unfoldable pub start_under : (l : ℕ) → ℕ → Node (Subtree l) → ℕ
start_under zero t x = x.entry.start
start_under (suc l) t x = start_under l t (node_of l t x.subtree)

pub started : (half : ℕ) (P : ℕ → Type 0) (l : ℕ) {lo hi : ℕ} {es : Nodes l} (t : ℕ)
    → Seg (Shaped half (λ a b x. Leaf a b x × P a) l) lo hi es → lo ≤ t → t < hi → P (start_under l t (node_of l t es))
unfolding start_under Shaped
started half P zero t s low high = (find_node 0 t s (omega arith) low).holds.1
started half P (suc l) t s low high =
    let h = find_node (suc l) t s (omega arith) low in
    started half P l t h.holds.1 h.begun (h.ends high)

module _ (half : ℕ) (h : Head) (img : List ℕ) (t : ℕ) (some : 1 ≤ half) where
  look_start : (l : ℕ) (at : PageContext) (x : Node (Subtree (suc l))) → at.level ≡ l → l < free_level → 1 ≤ fewest half at
      → tree_fit half h img l at x.entry.child ≡ true → Stores (suc l) (image_of half img).page x
      → (look half h img t l at x.entry.child).start ≡ start_under l t (node_of l t x.subtree)
  unfolding look_by leaf_answer above start_under entry_at context_below fewest
  look_start zero at x v small n e shown =
      let k = step half h img t zero at x v small n (tree_top half h img zero at x.entry.child e) shown in
      rw (top_fit half h img zero at x.entry.child e) (ap (λ (y : Entry). y.start) k.same)
  look_start (suc l) at x v small n e shown =
      let s : List ℕ = page_at half img x.entry.child in
      let i : ℕ = index_of t (entries_of half s) in
      let y : Node (Subtree (suc l)) = node_of (suc l) t x.subtree in
      let d : PageContext = context_below half s at i in
      let f = tree_parts half h img l at x.entry.child e in
      let k = step half h img t (suc l) at x v small n f.0 shown in
      let c : child_at half s i ≡ y.entry.child = ap (λ (z : Entry). z.child) k.same in
      rw (top_fit half h img (suc l) at x.entry.child e)
      (ap (λ p. (look half h img t l d p).start) c
      ∙ look_start l d y (omega arith) (omega arith) some (sym (ap (λ p. tree_fit half h img l d p) c) ∙ f.1 i k.inside)
      (deeper half h img t (suc l) x k.found shown))

pub start_told : (half : ℕ) (img : List ℕ) → 1 ≤ half → SoundFacts half img → (Y : State) → Represents (image_of half img) Y → (t : ℕ)
    → (look_up half img t).start ≡ start_under Y.tree.level t (node_of Y.tree.level t Y.tree.nodes)
unfolding look_up image_of root_node root_context
start_told half img some f Y shown t =
    let h : Head = the_head half img in
    let l : ℕ = Y.tree.level in
    let v : h.height - 1 ≡ l = omega (arith, shown.height) in
    let low : 1 ≤ fewest half (root_context h) = omega (arith, root_fewest half h l v, least_one l) in
    let fits : tree_fit half h img l (root_context h) Y.tree.root ≡ true =
    (λ j. tree_fit half h img (sym v j) (root_context h) (sym shown.root j)) ∙ f.fit.tree in
    (λ j. (look half h img t (v j) (root_context h) (shown.root j)).start)
    ∙ look_start half h img t some l (root_context h) (root_node Y.tree) v (omega (arith, f.fit.head.height_most)) low fits
    shown.below
