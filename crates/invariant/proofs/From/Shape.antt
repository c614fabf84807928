-- The tree that is loaded has the shape that document 01 asks: consecutive spans, and the numbers of entries. Assumes nothing.
use Prim.Native.Nat.{ℕ, zero, suc, ◌-◌, ◌≤◌, ◌<◌}
use mathlib.Core.Path.{◌≡◌, refl, sym, ap, ◌∙◌}
use mathlib.Core.Bool.{true, cond}
use mathlib.Core.List.{List}
use native.Mathlib.Omega.{arith}
use borrow.Author.Tests.{eq-eqb, ne_eqb}
use Rattle.page.specs.declared.Head.{Head}
use Rattle.page.specs.Layout.{entry_count, start_at, child_at, entry_at}
use Rattle.page.specs.Fit.{PageContext, root_context, context_below, end_at, fewest}
use Rattle.image.specs.Images.{page_at}
use Rattle.image.specs.Sound.{tree_fit}
use Rattle.tree.specs.Tree.{Subtree}
use Rattle.tree.specs.Shape.{Asked, Seg, Filled, Shaped, Leaf, Formed, root_least}
use Rattle.tree.proofs.Seg.{least_one}
use Rattle.fit.proofs.Laws.Pages.{PageFit}
use Rattle.fit.proofs.Laws.Spans.{bound, bound_next, bound_in, bound_past, bound_rises}
use Rattle.soundness.proofs.Tree.{tree_parts, tree_top}
use Rattle.soundness.proofs.Sound.{the_head, FitImage}
use Rattle.invariant.proofs.From.Listed.{seg_listed}
use Rattle.invariant.proofs.From.Load.{loaded, load, load_listed, load_length, tree_in}

-- ---- how many entries

pub root_fewest : (half : ℕ) (h : Head) (l : ℕ) → h.height - 1 ≡ l → fewest half (root_context h) ≡ root_least l
unfolding fewest root_context root_least
root_fewest half h zero e = ap (λ t. cond t 1 2) (eq-eqb (h.height - 1) 0 e)
root_fewest half h (suc l) e = ap (λ t. cond t 1 2) (ne_eqb (h.height - 1) 0 (λ z. omega arith))

module _ (half : ℕ) (h : Head) (img : List ℕ) where
  -- ---- one page

  -- the entries of a fit page follow each other over its span
  page_spans : (l : ℕ) (at : PageContext) (p : ℕ) (Q : Asked (Subtree l)) → PageFit half h at (page_at half img p)
      → 1 ≤ entry_count (page_at half img p)
      → ((i : ℕ) → i < entry_count (page_at half img p)
      → Q (start_at (page_at half img p) i) (end_at (page_at half img p) at.hi i)
      (loaded half img l (entry_at half (page_at half img p) i)))
      → Seg Q at.lo at.hi (load half img l p)
  unfolding entry_at
  page_spans l at p Q f some q =
      let s : List ℕ = page_at half img p in
      let b : ℕ → ℕ = bound s at.hi in
      let lo : b 0 ≡ at.lo = bound_in s at.hi 0 some ∙ f.first in
      let hi : b (entry_count s) ≡ at.hi = bound_past s at.hi (entry_count s) (omega arith) in
      let all : Seg Q (b 0) (b (entry_count s)) (load half img l p) =
      rw (load_listed half img l p f.most)
      (seg_listed (loaded half img l) (λ i. entry_at half s i) (entry_count s) b (λ i m. sym (bound_in s at.hi i m)) (bound_rises f)
      (λ i m. rw (bound_in s at.hi i m, ← (bound_next s at.hi i)) (q i m))) in
      rw (lo, hi) at all

  filled : (l : ℕ) (at : PageContext) (p : ℕ) → fewest half at ≡ half → PageFit half h at (page_at half img p)
      → Filled half (load half img l p)
  filled l at p e f = record
      { least = omega (arith, load_length half img l p f.most, f.least); most = omega (arith, load_length half img l p f.most) }

  -- ---- the pages below

  module _ (some : 1 ≤ half) where
    pub spans : (l : ℕ) (at : PageContext) (p : ℕ) → at.level ≡ l → 1 ≤ fewest half at → tree_fit half h img l at p ≡ true
        → Seg (λ lo hi x. Shaped half Leaf l lo hi x) at.lo at.hi (load half img l p)
    unfolding Shaped context_below fewest entry_at
    spans zero at p v n t =
        let f : PageFit half h at (page_at half img p) = tree_top half h img zero at p t in
        page_spans zero at p Leaf f (omega (arith, f.least)) (λ i m. (f.children i m).leaf v)
    spans (suc l) at p v n t =
        let k = tree_parts half h img l at p t in
        let s : List ℕ = page_at half img p in
        page_spans (suc l) at p (λ lo hi x. Shaped half Leaf (suc l) lo hi x) k.0 (omega (arith, k.0.least))
        (λ i m.
        let c : ℕ = child_at half s i in
        let d : PageContext = context_below half s at i in
        (filled l d c refl (tree_top half h img l d c (k.1 i m)), spans l d c (omega arith) some (k.1 i m)))

-- ---- the tree

pub tree_formed : (half : ℕ) (img : List ℕ) → 1 ≤ half → FitImage half img → Formed half Leaf (tree_in half img)
unfolding root_context
tree_formed half img some f =
    let h : Head = the_head half img in
    let l : ℕ = h.height - 1 in
    let t : PageFit half h (root_context h) (page_at half img h.root) = tree_top half h img l (root_context h) h.root f.tree in
    let n : fewest half (root_context h) ≡ root_least l = root_fewest half h l refl in
    record {
      least = omega (arith, load_length half img l h.root t.most, t.least);
      most = omega (arith, load_length half img l h.root t.most, t.most);
      spans = spans half h img some l (root_context h) h.root refl (omega (arith, least_one l)) f.tree;
    }
