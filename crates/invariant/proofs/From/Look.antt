-- What an instant call finds in a sound image is the pair of the tree that it shows. Assumes nothing.
use Prim.Native.Nat.{ℕ, zero, suc, ◌-◌, ◌≤◌, ◌<◌}
use mathlib.Core.Path.{◌≡◌, refl, sym, ap, ◌∙◌, subst⁻¹}
use mathlib.Core.Bool.{true}
use mathlib.Core.List.{List}
use native.Mathlib.Omega.{arith}
use lib.ListN.{length, length-map}
use Rattle.lists.proofs.All.{all_at}
use Rattle.page.proofs.Laws.Indices.{index_in}
use Rattle.rule.specs.declared.Pair.{Pair}
use Rattle.rule.specs.Pairs.{combine}
use Rattle.page.specs.declared.Entry.{Entry}
use Rattle.page.specs.declared.Head.{Head}
use Rattle.page.specs.Entries.{at as entry_in, index_of}
use Rattle.page.specs.Layout.{entry_count, pair_at, child_at, entry_at, entries_of, free_level}
use Rattle.page.specs.Fit.{PageContext, root_context, context_below, fewest, head_fit}
use Rattle.page.proofs.Laws.Trees.{length_entries_of, at_entries_of}
use Rattle.image.specs.Images.{entries_in, page_at, pages_in, image_of}
use Rattle.image.specs.Sound.{tree_fit}
use Rattle.image.proofs.Cells.{cell_tree}
use Rattle.image.specs.Instant.{Lookup, leaf_answer, above, look_by, look, look_up}
use Rattle.tree.specs.Tree.{Node, Subtree, Nodes, no_node, flat, node_of, pair_under, pair_in}
use Rattle.tree.specs.Cut.{State, root_node}
use Rattle.refinement.specs.Represents.{Stores, Represents}
use Rattle.refinement.proofs.Paths.{at_flat}
use Rattle.soundness.proofs.Tree.{tree_parts}
use Rattle.soundness.proofs.Sound.{the_head, SoundFacts}
use Rattle.soundness.proofs.Tree.{tree_top}
use Rattle.invariant.proofs.From.Shape.{root_fewest}
use Rattle.tree.proofs.Seg.{least_one}
use Rattle.fit.proofs.Laws.Pages.{PageFit}
use Rattle.soundness.proofs.Tree.{top_fit}

-- an answer: all pages fit, the pair, and so many pages read
pub record Looked (w : Lookup) (p : Pair) (pages : ℕ) : Type 0 where
  pub fit : w.fit ≡ true
  pub pair : w.pair ≡ p
  pub read : w.pages ≡ pages

module _ (half : ℕ) (h : Head) (img : List ℕ) (t : ℕ) where
  -- the page is fit in its context the entry found on a page is the tree's
  pub record Step (l : ℕ) (p : ℕ) (es : Nodes l) : Type 0 where
    pub inside : index_of t (entries_of half (page_at half img p)) < entry_count (page_at half img p)
    pub same : entry_at half (page_at half img p) (index_of t (entries_of half (page_at half img p))) ≡ (node_of l t es).entry
    pub found : index_of t (flat es) < length es

  pub step : (l : ℕ) (at : PageContext) (x : Node (Subtree (suc l))) → at.level ≡ l → l < free_level → 1 ≤ fewest half at
      → PageFit half h at (page_at half img x.entry.child) → Stores (suc l) (image_of half img).page x
      → Step l x.entry.child x.subtree
  unfolding Stores image_of entries_in node_of
  step l at x v small some f shown =
      let s : List ℕ = page_at half img x.entry.child in
      let i : ℕ = index_of t (entries_of half s) in
      let es : entries_of half s ≡ flat x.subtree = sym (ap entries_in (cell_tree half s (omega (arith, f.level))))
      ∙ ap entries_in shown.0 in
      let n : length (entries_of half s) ≡ entry_count s = length_entries_of half s ∙ omega (arith, f.most) in
      let m : length (flat x.subtree) ≡ length x.subtree = length-map x.subtree (λ y. y.entry) in
      let c : i < length (entries_of half s) = index_in t (entries_of half s) (omega (arith, f.least)) in
      record {
        inside = omega arith;
        same =
            sym (at_entries_of half s i (omega arith) (omega (arith, f.most)))
            ∙ ap (λ r. entry_in r (index_of t r)) es
            ∙ at_flat l x.subtree (index_of t (flat x.subtree));
        found = omega (arith, rw es at c);
      }

  pub deeper : (l : ℕ) (x : Node (Subtree (suc l))) → index_of t (flat x.subtree) < length x.subtree
      → Stores (suc l) (image_of half img).page x
      → Stores l (image_of half img).page (node_of l t x.subtree)
  unfolding Stores node_of
  deeper l x m shown = all_at (index_of t (flat x.subtree)) (no_node l) shown.1 m

  -- ---- from a page down

  module _ (some : 1 ≤ half) where
    look_represented : (l : ℕ) (at : PageContext) (x : Node (Subtree (suc l))) → at.level ≡ l → l < free_level → 1 ≤ fewest half at
        → tree_fit half h img l at x.entry.child ≡ true → Stores (suc l) (image_of half img).page x
        → Looked (look half h img t l at x.entry.child) (pair_in (combine h.kind) l t x.subtree) (suc l)
    unfolding look_by leaf_answer above pair_in pair_under entry_at context_below fewest
    look_represented zero at x v small n e shown =
        let k = step zero at x v small n (tree_top half h img zero at x.entry.child e) shown in
        rw (top_fit half h img zero at x.entry.child e)
        (record { fit = refl; pair = ap (λ (y : Entry). y.pair) k.same; read = refl })
    look_represented (suc l) at x v small n e shown =
        let s : List ℕ = page_at half img x.entry.child in
        let i : ℕ = index_of t (entries_of half s) in
        let y : Node (Subtree (suc l)) = node_of (suc l) t x.subtree in
        let d : PageContext = context_below half s at i in
        let f = tree_parts half h img l at x.entry.child e in
        let k = step (suc l) at x v small n f.0 shown in
        let c : child_at half s i ≡ y.entry.child = ap (λ (z : Entry). z.child) k.same in
        let p : pair_at half s i ≡ y.entry.pair = ap (λ (z : Entry). z.pair) k.same in
        let rest : Looked (look half h img t l d (child_at half s i)) (pair_in (combine h.kind) l t y.subtree) (suc l) =
        rw c (look_represented l d y (omega arith) (omega arith) some (rw c at (f.1 i k.inside)) (deeper (suc l) x k.found shown)) in
        rw (top_fit half h img (suc l) at x.entry.child e)
        (record {
          fit = rest.fit;
          pair = rw rest.fit (λ j. combine h.kind (p j) (rest.pair j));
          read = ap suc rest.read;
        })

-- ---- from the root

-- What an instant call looks at in a sound image: the head is fit, and so are all pages on the path; the pair is the tree's, and as many
-- pages are read as the tree is high.
pub record Answered (half : ℕ) (img : List ℕ) (t : ℕ) (Y : State) : Type 0 where
  pub head : head_fit half (pages_in half img) (page_at half img 0) ≡ true
  pub looked : Looked (look_up half img t) (pair_in (combine (the_head half img).kind) Y.tree.level t Y.tree.nodes)
      (the_head half img).height

pub look_invariant : (half : ℕ) (img : List ℕ) → 1 ≤ half → SoundFacts half img → (Y : State) → Represents (image_of half img) Y → (t : ℕ)
    → Answered half img t Y
unfolding look_up image_of root_node root_context
look_invariant half img some f Y shown t =
    let h : Head = the_head half img in
    let l : ℕ = Y.tree.level in
    let v : h.height - 1 ≡ l = omega (arith, shown.height) in
    let low : 1 ≤ fewest half (root_context h) = omega (arith, root_fewest half h l v, least_one l) in
    let fits : tree_fit half h img l (root_context h) Y.tree.root ≡ true =
    (λ j. tree_fit half h img (sym v j) (root_context h) (sym shown.root j)) ∙ f.fit.tree in
    let found = look_represented half h img t some l (root_context h) (root_node Y.tree) v
    (omega (arith, f.fit.head.height_most)) low fits shown.below in
    record {
      head = f.fit.head_fits;
      looked =
          subst⁻¹ (λ (w : Lookup). Looked w (pair_in (combine h.kind) l t Y.tree.nodes) h.height)
          (λ j. look half h img t (v j) (root_context h) (shown.root j))
          (record { fit = found.fit; pair = found.pair; read = found.read ∙ sym shown.height });
    }
