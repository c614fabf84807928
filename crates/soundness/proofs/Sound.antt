-- What soundness says, by name, and back. Assumes nothing.
use mathlib.Core.Path.{◌≡◌, refl, sym, ap, ◌∙◌}
use mathlib.Core.Logic.{◌↔◌}
use mathlib.Core.Bool.{Bool, true, false, cond, and-eq-true_iff, false≢true}
use mathlib.Core.List.{List}
use Prim.Native.Nat.{ℕ, zero, suc, ◌+◌, ◌-◌, ◌≤◌, ◌<◌}
use native.Mathlib.Nat.{add-sub_of_le}
use native.Mathlib.Omega.{arith}
use lib.Dec.{eqb}
use lib.ListN.{length}
use borrow.Author.Tests.{eqb-true, eq-eqb}
use Rattle.rule.proofs.Tests.{both}
use Rattle.fields.specs.Bytes.{every}
use Rattle.fields.proofs.Laws.Tests.{every_all, every_of}
use Rattle.page.specs.declared.Head.{Head}
use Rattle.page.specs.Layout.{free_ok, never_used_ok, head_of}
use Rattle.page.specs.Fit.{root_context, head_fit}
use Rattle.image.specs.Images.{page_at, pages_in, length_ok}
use Rattle.image.specs.Sound.{tree_fit, tree_pages, chain_pages, each_once, sound_before, sound}
use Rattle.image.specs.Neighbours.{neighbours_apart}
use Rattle.lists.specs.Lists.{times}
use Rattle.lists.proofs.Times.{all_of_each, each_all_of}
use Rattle.fit.proofs.Laws.Heads.{Ranges, fit_ranges}

-- "each page below the high mark except 0 is once in the tree or once in the chain"

once_each : (mark : ℕ) (xs ys : List ℕ) → each_once mark xs ys ≡ true → (p : ℕ) → 1 ≤ p → p < mark → times p xs + times p ys ≡ 1
unfolding each_once
once_each mark xs ys e zero l h = absurd (omega arith)
once_each mark xs ys e (suc i) l h = eqb-true _ _ (every_all _ _ e i (omega arith))

each_once_of : (mark : ℕ) (xs ys : List ℕ) → ((p : ℕ) → 1 ≤ p → p < mark → times p xs + times p ys ≡ 1) → each_once mark xs ys ≡ true
unfolding each_once
each_once_of mark xs ys f = every_of _ _ (λ i l. eq-eqb _ _ (f (suc i) (omega arith) (omega arith)))

-- the head, the tree's pages and the chain's pages, as soundness reads them
abbrev pub the_head : ℕ → List ℕ → Head
the_head half img = head_of (page_at half img 0)

abbrev pub the_tree : ℕ → List ℕ → List ℕ
the_tree half img = tree_pages half img ((the_head half img).height - 1) (the_head half img).root

abbrev pub the_chain : ℕ → List ℕ → List ℕ
the_chain half img = chain_pages half img (pages_in half img) (the_head half img).free

-- the tests that soundness and soundness by counting share
abbrev pub head_test : ℕ → List ℕ → Bool
head_test half img = head_fit half (pages_in half img) (page_at half img 0)

abbrev pub tree_test : ℕ → List ℕ → Bool
tree_test half img =
    tree_fit half (the_head half img) img ((the_head half img).height - 1) (root_context (the_head half img)) (the_head half img).root

abbrev pub never_test : ℕ → List ℕ → Bool
never_test half img =
    every (pages_in half img - (the_head half img).mark) (λ i. never_used_ok (page_at half img ((the_head half img).mark + i)))

-- the length is in range, head and tree are fit, and all is FF from the high mark on
pub record FitImage (half : ℕ) (img : List ℕ) : Type 0 where
  pub whole : length_ok half img ≡ true
  pub head_fits : head_test half img ≡ true
  pub head : Ranges half (pages_in half img) (the_head half img)
  pub tree : tree_test half img ≡ true
  pub never : (p : ℕ) → (the_head half img).mark ≤ p → p < pages_in half img → never_used_ok (page_at half img p) ≡ true

pub fit_image : (half : ℕ) (img : List ℕ) → length_ok half img ≡ true → head_test half img ≡ true → tree_test half img ≡ true
    → never_test half img ≡ true → FitImage half img
fit_image half img w h t n =
    record {
      whole = w;
      head_fits = h;
      head = fit_ranges half (pages_in half img) (page_at half img 0) h;
      tree = t;
      never =
          λ p l b.
          ap (λ q. never_used_ok (page_at half img q)) (sym (add-sub_of_le l))
          ∙ every_all _ _ n (p - (the_head half img).mark) (omega arith);
    }

pub never_passes : (half : ℕ) (img : List ℕ) → FitImage half img → never_test half img ≡ true
never_passes half img f = every_of _ _ (λ i l. f.never ((the_head half img).mark + i) (omega arith) (omega arith))

-- "An image is sound if .."
pub record SoundFacts (half : ℕ) (img : List ℕ) : Type 0 where
  pub fit : FitImage half img
  pub once : (p : ℕ) → 1 ≤ p → p < (the_head half img).mark → times p (the_tree half img) + times p (the_chain half img) ≡ 1
  pub chain_length : length (the_chain half img) ≡ (the_head half img).chain
  pub free : (p : ℕ) → 1 ≤ times p (the_chain half img) → free_ok half (page_at half img p) ≡ true

pub sound_facts : (half : ℕ) (img : List ℕ) → sound_before half img ≡ true → SoundFacts half img
unfolding sound_before
sound_facts half img e =
    let k = simp and-eq-true_iff at e in
    record {
      fit = fit_image half img k.0 k.1.0 k.1.1.0 k.1.1.1.1.1.1;
      once = once_each _ _ _ k.1.1.1.0;
      chain_length = eqb-true _ _ k.1.1.1.1.0;
      free = all_of_each _ _ k.1.1.1.1.1.0;
    }

pub facts_sound : (half : ℕ) (img : List ℕ) → SoundFacts half img → sound_before half img ≡ true
unfolding sound_before
facts_sound half img f =
    simp and-eq-true_iff (
      f.fit.whole,
      (
        f.fit.head_fits,
        (
          f.fit.tree,
          (
            each_once_of _ _ _ f.once,
            (eq-eqb _ _ f.chain_length, (each_all_of _ _ f.free, never_passes half img f.fit)),
          ),
        ),
      ),
    )

-- its length: 16 turns no sound image back
pub sound_whole : (half : ℕ) (img : List ℕ) → sound_before half img ≡ true → length_ok half img ≡ true
sound_whole half img e = (sound_facts half img e).fit.whole

-- ---- with the clause on neighbours

pub record SoundParts (half : ℕ) (img : List ℕ) : Type 0 where
  pub old : sound_before half img ≡ true
  pub apart : eqb (the_head half img).kind 1 ≡ true → neighbours_apart half img ≡ true

pub sound_parts : (half : ℕ) (img : List ℕ) → (sound half img ≡ true) ↔ SoundParts half img
unfolding sound
sound_parts half img =
    let k : Bool = eqb (the_head half img).kind 1 in
    let w = both (sound_before half img) (cond k (neighbours_apart half img) true) (λ z. z, λ z. z) (asked k (neighbours_apart half img)) in
    (λ e. record { old = (w.0 e).0; apart = (w.0 e).1 }, λ s. w.1 (s.old, s.apart))
  where
    asked : (k b : Bool) → (cond k b true ≡ true) ↔ (k ≡ true → b ≡ true)
    asked true b = (λ e h. e, λ f. f refl)
    asked false b = (λ e h. absurd (false≢true h), λ f. refl)

pub sound_old : (half : ℕ) (img : List ℕ) → sound half img ≡ true → sound_before half img ≡ true
sound_old half img e = ((sound_parts half img).0 e).old
