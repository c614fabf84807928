-- The pages of an image show the tree that is loaded. Assumes nothing.
use Prim.Native.Nat.{ℕ, zero, suc, ◌-◌, ◌<◌}
use mathlib.Core.Path.{◌≡◌, sym, ◌∙◌}
use mathlib.Core.Bool.{true}
use mathlib.Core.List.{List}
use native.Mathlib.Omega.{arith}
use Rattle.page.specs.declared.Entry.{Entry}
use Rattle.page.specs.declared.Head.{Head}
use Rattle.page.specs.Layout.{level_of, entry_count, entry_at, free_level}
use Rattle.page.specs.Fit.{PageContext, context_below}
use Rattle.image.specs.Images.{tree, page_at, image_of}
use Rattle.image.specs.Sound.{tree_fit}
use Rattle.image.proofs.Cells.{cell_tree}
use Rattle.tree.specs.Tree.{flat}
use Rattle.refinement.specs.Represents.{Stores}
use Rattle.fit.proofs.Laws.Pages.{PageFit}
use Rattle.soundness.proofs.Tree.{tree_parts, tree_top}
use Rattle.invariant.proofs.From.Listed.{all_listed}
use Rattle.invariant.proofs.From.Load.{loaded, load, load_listed, flat_load}

module _ (half : ℕ) (h : Head) (img : List ℕ) where
  pub page_represented : (l : ℕ) (at : PageContext) (p : ℕ) → at.level ≡ l → l < free_level → tree_fit half h img l at p ≡ true
      → (image_of half img).page p ≡ tree l (flat (load half img l p))
  unfolding image_of
  page_represented l at p e small t =
      let s : List ℕ = page_at half img p in
      let v : level_of s ≡ l = (tree_top half h img l at p t).level ∙ e in
      cell_tree half s (omega arith) ∙ (λ j. tree (v j) (sym (flat_load half img l p) j))

  pub tree_represented : (l : ℕ) (at : PageContext) (e : Entry) → at.level ≡ l → l < free_level
      → tree_fit half h img l at e.child ≡ true
      → Stores (suc l) (image_of half img).page (loaded half img (suc l) e)
  unfolding Stores context_below entry_at
  tree_represented zero at e v small t =
      let f : PageFit half h at (page_at half img e.child) = tree_top half h img zero at e.child t in (
        page_represented zero at e.child v small t,
        rw (load_listed half img zero e.child f.most)
            (all_listed (loaded half img zero) _ _ (λ i l. tt)),
      )
  tree_represented (suc l) at e v small t =
      let k = tree_parts half h img l at e.child t in
      let s : List ℕ = page_at half img e.child in (
        page_represented (suc l) at e.child v small t,
        rw (load_listed half img (suc l) e.child k.0.most)
            (all_listed (loaded half img (suc l)) (λ i. entry_at half s i) (entry_count s)
            (λ i m. tree_represented l (context_below half s at i) (entry_at half s i) (omega arith) (omega arith) (k.1 i m))),
      )
