-- The audit's answer at each of its ways out is soundness. Assumes nothing.
use mathlib.Core.Path.{◌≡◌, refl, sym, ap, ap₂, ◌∙◌}
use mathlib.Core.Bool.{Bool, true, false, ◌&&◌, and_assoc}
use mathlib.Core.List.{List}
use Prim.Native.Nat.{ℕ, ◌+◌, ◌-◌}
use lib.ListN.{length}
use lib.Dec.{eqb}
use Rattle.fields.specs.Bytes.{every}
use Rattle.page.specs.declared.Head.{Head}
use Rattle.page.specs.Layout.{never_used_ok}
use Rattle.page.specs.Fit.{root_context}
use Rattle.image.specs.Images.{page_at, pages_in, length_ok}
use Rattle.image.specs.Sound.{tree_fit, tree_pages, sound_before}
use Rattle.fit.proofs.Tests.{passes, fails}
use Rattle.std.specs.Prelude.{Option, Some, None}
use Rattle.soundness.specs.Counting.{chain_ends, sound_by_counting}
use Rattle.access.specs.Access.{OpenImage}
use Rattle.access.proofs.Laws.{opened_ranges}
use Rattle.audit.specs.Walks.{page_count}
use Rattle.audit.proofs.Walks.{counted_fit, counted_unfit, false_of}
use Rattle.soundness.proofs.Sound.{head_test}
use Rattle.soundness.proofs.Counting.{counting_sound}

-- and a is what the walk from the root down answered
pub record Walked (half : ℕ) (img : List ℕ) (h : Head) (a : Option ℕ) : Type 0 where
  pub opened : OpenImage half img h
  pub answer : a ≡ page_count half h img (root_context h) h.root

pub unsound_head : (half : ℕ) (img : List ℕ) → length_ok half img ≡ true → head_test half img ≡ false → false ≡ sound_before half img
unfolding sound_by_counting
unsound_head half img ok f = passes ok (fails _ f) ∙ counting_sound half img

module _ {half : ℕ} {img : List ℕ} {h : Head} (o : OpenImage half img h) where
  sound_parts : (tree_fit half h img (root_context h).level (root_context h) h.root
      && (eqb (length (tree_pages half img (root_context h).level h.root) + h.chain) (h.mark - 1)
      && (chain_ends half img h.chain h.free
      && every (pages_in half img - h.mark) (λ i. never_used_ok (page_at half img (h.mark + i))))))
      ≡ sound_before half img
  unfolding sound_by_counting root_context
  sound_parts = rw o.shown (passes o.whole (passes o.fit refl) ∙ counting_sound half img)

module _ {half : ℕ} {img : List ℕ} {h : Head} {a : Option ℕ} (w : Walked half img h a) where
  pub unsound_tree : a ≡ None → false ≡ sound_before half img
  unsound_tree z =
      fails _ (false_of _ (counted_unfit half h img (root_context h) h.root (sym w.answer ∙ z))) ∙ sound_parts w.opened

  module _ (k : ℕ) (z : a ≡ Some k) where
    fit_tree : tree_fit half h img (root_context h).level (root_context h) h.root ≡ true
    fit_tree = (counted_fit half h img (root_context h) h.root k (sym w.answer ∙ z)).0

    same_count : eqb (length (tree_pages half img (root_context h).level h.root) + h.chain) (h.mark - 1) ≡
        eqb (k + h.chain) (h.mark - 1)
    same_count = ap (λ n. eqb (n + h.chain) (h.mark - 1)) (counted_fit half h img (root_context h) h.root k (sym w.answer ∙ z)).1

    -- of the rest the code has two parts at once
    pub sound_rest : {v u : Bool} → v ≡ (eqb (k + h.chain) (h.mark - 1) && chain_ends half img h.chain h.free)
        → u ≡ every (h.pages - h.mark) (λ i. never_used_ok (page_at half img (h.mark + i))) → (v && u) ≡ sound_before half img
    sound_rest v x =
        let n = (opened_ranges w.opened).pages_is in
        let chain = chain_ends half img h.chain h.free in
        let unused : ℕ → Bool = λ k. every (k - h.mark) (λ i. never_used_ok (page_at half img (h.mark + i))) in
        let adds_up = eqb (length (tree_pages half img (root_context h).level h.root) + h.chain) (h.mark - 1) in
        passes fit_tree
        (ap₂ ◌&&◌ (v ∙ ap (λ t. t && chain) (sym same_count)) (x ∙ ap unused n) ∙ and_assoc adds_up chain (unused (pages_in half img)))
        ∙ sound_parts w.opened
