-- Soundness by counting is soundness: the same answer on every image. Assumes nothing.
use mathlib.Core.Path.{◌≡◌, refl, sym}
use mathlib.Core.Bool.{Bool, true, false, and-eq-true_iff}
use mathlib.Core.List.{List}
use Prim.Native.Nat.{ℕ, zero, suc, ◌+◌, ◌-◌, ◌≤◌, ◌<◌}
use native.Mathlib.Omega.{arith}
use lib.ListN.{length}
use borrow.Author.Tests.{eqb-true, eq-eqb}
use Rattle.page.specs.Layout.{free_ok}
use Rattle.image.specs.Images.{page_at, pages_in}
use Rattle.lists.specs.Lists.{times}
use Rattle.image.specs.Sound.{sound_before}
use Rattle.soundness.specs.Counting.{chain_ends, sound_by_counting}
use Rattle.lists.proofs.Times.{count_of_once, once_of_count}
use Rattle.soundness.proofs.Tree.{tree_some}
use Rattle.soundness.proofs.Chain.{link, Among, Chain, chain_listed, listed_ends}
use Rattle.soundness.proofs.Sound.{the_head, the_tree, the_chain, FitImage, fit_image, never_passes, SoundFacts, sound_facts}
use Rattle.soundness.proofs.Sound.{facts_sound}
use Rattle.soundness.proofs.Used.{tree_within, chain_within, used_once}

-- what soundness by counting says, by name, and back
pub record CountingFacts (half : ℕ) (img : List ℕ) : Type 0 where
  pub fit : FitImage half img
  pub count : length (the_tree half img) + (the_head half img).chain ≡ (the_head half img).mark - 1
  pub ends : chain_ends half img (the_head half img).chain (the_head half img).free ≡ true

pub counted_facts : (half : ℕ) (img : List ℕ) → sound_by_counting half img ≡ true → CountingFacts half img
unfolding sound_by_counting
counted_facts half img e =
    let k = simp and-eq-true_iff at e in
    record {
      fit = fit_image half img k.0 k.1.0 k.1.1.0 k.1.1.1.1.1;
      count = eqb-true _ _ k.1.1.1.0;
      ends = k.1.1.1.1.0;
    }

pub facts_counted : (half : ℕ) (img : List ℕ) → CountingFacts half img → sound_by_counting half img ≡ true
unfolding sound_by_counting
facts_counted half img f =
    simp and-eq-true_iff
    (f.fit.whole, (f.fit.head_fits, (f.fit.tree, (eq-eqb _ _ f.count, (f.ends, never_passes half img f.fit)))))

module _ {half : ℕ} {img : List ℕ} where
  -- A chain that ends is its list, all free pages and none twice; so with as many pages as lie below the mark, each is there once.
  pub counted_sound : CountingFacts half img → SoundFacts half img
  counted_sound f = record { fit = f.fit; once = once; chain_length = (chain 0).long; free = free }
    where
      chain : (p : ℕ) → Chain half img (the_head half img).chain p (the_chain half img)
      chain p =
          chain_listed half img (pages_in half img) (the_head half img).chain (the_head half img).free p
          (omega (arith, f.count, f.fit.head.mark_most)) f.ends

      free : (p : ℕ) → 1 ≤ times p (the_chain half img) → free_ok half (page_at half img p) ≡ true
      free p h =
          let a : Among half img (the_head half img).chain p = (chain p).among h in
          (link half img a.behind p a.from).free

      once : (p : ℕ) → 1 ≤ p → p < (the_head half img).mark → times p (the_tree half img) + times p (the_chain half img) ≡ 1
      once zero l h = absurd (omega arith)
      once (suc i) l h =
          once_of_count ((the_head half img).mark - 1) (the_tree half img) (the_chain half img) (tree_within f.fit)
          (chain_within f.fit free) (used_once f.fit free (λ p. (chain p).most)) (omega (arith, f.count, (chain 0).long)) i
          (omega arith)

  -- Pages that are there once each are as many as lie below the mark; so the chain's list was not cut off, and the chain ends.
  pub sound_counted : SoundFacts half img → CountingFacts half img
  sound_counted f = record { fit = f.fit; count = omega (arith, count, f.chain_length); ends = rw f.chain_length at ends }
    where
      count : length (the_tree half img) + length (the_chain half img) ≡ (the_head half img).mark - 1
      count =
          count_of_once ((the_head half img).mark - 1) (the_tree half img) (the_chain half img) (tree_within f.fit)
          (chain_within f.fit f.free) (λ i l. f.once (suc i) (omega arith) (omega arith))

      ends : chain_ends half img (length (the_chain half img)) (the_head half img).free ≡ true
      ends =
          listed_ends half img f.fit.whole (pages_in half img) (the_head half img).free
          (omega (arith, count, f.fit.head, tree_some half img ((the_head half img).height - 1) (the_head half img).root)) f.free

same_test : (a b : Bool) → (a ≡ true → b ≡ true) → (b ≡ true → a ≡ true) → a ≡ b
same_test true b f g = sym (f refl)
same_test false true f g = g refl
same_test false false f g = refl

pub counting_sound : (half : ℕ) (img : List ℕ) → sound_by_counting half img ≡ sound_before half img
counting_sound half img =
    same_test (sound_by_counting half img) (sound_before half img) (λ e. facts_sound half img (counted_sound (counted_facts half img e)))
    (λ e. facts_counted half img (sound_counted (sound_facts half img e)))
