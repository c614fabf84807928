-- Every page of a sound image but the head is held once: by the tree that is loaded, by the chain, or from the high mark on. Assumes
-- nothing.
use Prim.Native.Nat.{ℕ, zero, suc, ◌+◌, ◌-◌, ◌≤◌, ◌<◌}
use mathlib.Core.Path.{◌≡◌, refl, sym, ap, ◌∙◌}
use mathlib.Core.Bool.{cond}
use mathlib.Core.List.{List, [], ◌∷◌, map}
use native.Mathlib.Omega.{arith}
use native.Mathlib.Decide.{dec_le}
use lib.Dec.{leb}
use borrow.Author.Tests.{le-leb, lt-leb}
use Rattle.lists.specs.Lists.{concat_map, times}
use Rattle.lists.proofs.Concat.{concat_map_map}
use Rattle.page.specs.declared.Entry.{Entry}
use Rattle.page.specs.Layout.{entries_of}
use Rattle.image.specs.Images.{page_at}
use Rattle.image.specs.Sound.{tree_pages}
use Rattle.tree.specs.Tree.{pages_under}
use Rattle.tree.specs.Conserved.{times_below, times_spare, held}
use Rattle.soundness.proofs.Sound.{the_head, the_tree, the_chain, SoundFacts}
use Rattle.soundness.proofs.Used.{tree_within, chain_within}
use Rattle.invariant.proofs.From.Load.{below, loaded, load, state_in}

-- ---- the pages of the tree

over_none : (half : ℕ) (img : List ℕ) (es : List Entry) → concat_map (λ x. pages_under zero x) (map (loaded half img zero) es) ≡ []
unfolding concat_map pages_under
over_none half img [] = refl
over_none half img (e ∷ es) = over_none half img es

pages_are : (half : ℕ) (img : List ℕ) (l p : ℕ) → tree_pages half img l p ≡ p ∷ concat_map (λ x. pages_under l x) (load half img l p)
unfolding tree_pages pages_under below
pages_are half img zero p = ap (λ (r : List ℕ). p ∷ r) (sym (over_none half img (entries_of half (page_at half img p))))
pages_are half img (suc l) p =
    ap (λ (r : List ℕ). p ∷ r)
    (concat_map_map (λ (e : Entry). tree_pages half img l e.child) (λ x. pages_under (suc l) x) (loaded half img (suc l))
    (λ e. pages_are half img l e.child)
    (entries_of half (page_at half img p)))

-- ---- how often a page is held

module _ (half : ℕ) (img : List ℕ) where
  held_is : (p : ℕ)
      → held p (state_in half img) ≡ times p (the_tree half img) + times p (the_chain half img) + cond (leb (the_head half img).mark p) 1 0
  unfolding held times_below times_spare times
  held_is p = omega (arith, ap (times p) (pages_are half img ((the_head half img).height - 1) (the_head half img).root))

  module _ (f : SoundFacts half img) where
    -- neither tree nor chain has the head or a page from the mark on
    tree_inside : (p : ℕ) → 1 ≤ times p (the_tree half img) → (1 ≤ p) × (p < (the_head half img).mark)
    tree_inside p h = omega (arith, tree_within f.fit p h, f.fit.head.mark_least)

    chain_inside : (p : ℕ) → 1 ≤ times p (the_chain half img) → (1 ≤ p) × (p < (the_head half img).mark)
    chain_inside p h = omega (arith, chain_within f.fit f.free p h, f.fit.head.mark_least)

    outside : (p : ℕ) (ps : List ℕ) → (1 ≤ times p ps → ⊥) → times p ps ≡ 0
    outside p ps h = go (dec_le 1 (times p ps))
      where
        go : Dec (1 ≤ times p ps) → times p ps ≡ 0
        go (yes k) = absurd (h k)
        go (no k) = omega arith

    pub held_once : (p : ℕ) → 1 ≤ p → held p (state_in half img) ≡ 1
    held_once p l = held_is p ∙ go (dec_le (the_head half img).mark p)
      where
        go : Dec ((the_head half img).mark ≤ p)
            → times p (the_tree half img) + times p (the_chain half img) + cond (leb (the_head half img).mark p) 1 0 ≡ 1
        go (yes k) =
            rw (le-leb (the_head half img).mark p k)
            (omega (
              arith,
              outside p (the_tree half img) (λ h. omega (arith, tree_inside p h)),
              outside p (the_chain half img) (λ h. omega (arith, chain_inside p h)),
            ))
        go (no k) = rw (lt-leb (the_head half img).mark p (omega arith)) (omega (arith, f.once p l (omega arith)))

    pub head_held : held 0 (state_in half img) ≡ 0
    head_held =
        held_is 0
        ∙ rw (lt-leb (the_head half img).mark 0 (omega (arith, f.fit.head.mark_least)))
        (omega (
          arith,
          outside 0 (the_tree half img) (λ h. omega (arith, tree_inside 0 h)),
          outside 0 (the_chain half img) (λ h. omega (arith, chain_inside 0 h)),
        ))
