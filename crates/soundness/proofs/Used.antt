-- The pages that the tree and the chain use: all below the high mark, a tree page at one place, and none a tree page and free. Assumes
-- nothing.
use mathlib.Core.Path.{◌≡◌, refl}
use mathlib.Core.Bool.{true}
use mathlib.Core.List.{List}
use Prim.Native.Nat.{ℕ, suc, ◌+◌, ◌-◌, ◌≤◌, ◌<◌}
use native.Mathlib.Omega.{arith}
use native.Mathlib.Decide.{dec_le}
use Rattle.page.specs.Layout.{level_of, free_ok}
use Rattle.page.specs.Fit.{root_context}
use Rattle.image.specs.Images.{page_at, pages_in}
use Rattle.lists.specs.Lists.{times}
use Rattle.lists.proofs.Times.{Within}
use Rattle.soundness.proofs.Levels.{free_level_is, free_in, used_below}
use Rattle.soundness.proofs.Tree.{Placed, tree_placed}
use Rattle.soundness.proofs.Chain.{chain_least}
use Rattle.soundness.proofs.Sound.{the_head, the_tree, the_chain, FitImage}

module _ {half : ℕ} {img : List ℕ} (f : FitImage half img) where
  placed : (p : ℕ)
      → Placed (times p (the_tree half img)) p (page_at half img p) (suc ((the_head half img).height - 1))
      (root_context (the_head half img)).lo
      (root_context (the_head half img)).hi (the_head half img).pages
  placed p =
      tree_placed half (the_head half img) img p ((the_head half img).height - 1) (root_context (the_head half img))
      (the_head half img).root
      (unfold root_context in refl) f.head.root_least (omega arith) f.tree

  -- a page of the tree
  pub tree_once : (p : ℕ) → times p (the_tree half img) ≤ 1
  tree_once p = (placed p).held.most

  pub tree_level : (p : ℕ) → 1 ≤ times p (the_tree half img) → level_of (page_at half img p) < (the_head half img).height
  tree_level p h = omega (arith, (placed p).low h)

  pub tree_within : Within ((the_head half img).mark - 1) (the_tree half img)
  tree_within p h =
      let n : (1 ≤ p) × (p < (the_head half img).pages) = (placed p).inside h in
      omega (arith, used_below half img f.whole (the_head half img).mark p f.never (omega arith) (omega (arith, tree_level p h)))

  -- a free page
  pub free_within : (p : ℕ) → free_ok half (page_at half img p) ≡ true → p < (the_head half img).mark
  free_within p e =
      used_below half img f.whole (the_head half img).mark p f.never (free_in half img f.whole p e)
      (omega (arith, free_level_is half (page_at half img p) e))

  pub tree_not_free : (p : ℕ) → 1 ≤ times p (the_tree half img) → free_ok half (page_at half img p) ≡ true → ⊥
  tree_not_free p h e = omega (arith, tree_level p h, free_level_is half (page_at half img p) e)

  -- a chain of free pages
  module _ (free : (p : ℕ) → 1 ≤ times p (the_chain half img) → free_ok half (page_at half img p) ≡ true) where
    pub chain_within : Within ((the_head half img).mark - 1) (the_chain half img)
    chain_within p h =
        omega (arith, chain_least half img (pages_in half img) (the_head half img).free p h, free_within p (free p h))

    pub used_once : ((p : ℕ) → times p (the_chain half img) ≤ 1) → (p : ℕ) → times p (the_tree half img) + times p (the_chain half img) ≤ 1
    used_once most p = go (dec_le 1 (times p (the_tree half img))) (dec_le 1 (times p (the_chain half img)))
      where
        go : Dec (1 ≤ times p (the_tree half img)) → Dec (1 ≤ times p (the_chain half img))
            → times p (the_tree half img) + times p (the_chain half img) ≤ 1
        go (yes t) (yes c) = absurd (tree_not_free p t (free p c))
        go (yes t) (no c) = omega (arith, tree_once p)
        go (no t) c = omega (arith, most p)
