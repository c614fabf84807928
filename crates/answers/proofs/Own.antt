-- The calls on an image by its own capacity: where it is sound by some half, that half is its own, and each call is the one by that half.
-- Assumes nothing.
use Prim.Native.Nat.{ℕ, ◌≤◌}
use mathlib.Core.Path.{◌≡◌, ap, ◌∙◌}
use mathlib.Core.Bool.{true}
use mathlib.Core.List.{List}
use native.Mathlib.Nat.{mul-le-mul_left}
use native.Mathlib.Omega.{arith}
use lib.ListN.{length}
use lib.IntN.{ℤ}
use borrow.Author.Tests.{le-ltb}
use Rattle.page.specs.Layout.{page_size}
use Rattle.image.specs.Images.{half_of, pages_in, page_at}
use Rattle.image.specs.Sound.{sound_before}
use Rattle.image.proofs.Sizes.{sized}
use Rattle.image.proofs.Capacity.{Half, own_half, fit_half}
use Rattle.soundness.proofs.Sound.{sound_whole, sound_facts}
use Rattle.calls.specs.Refusals.{borrowed}
use Rattle.calls.specs.Changes.{Side}
use Rattle.calls.specs.Calls.{book, instant, average_at, listing, audit, rebuild}
use Rattle.calls.specs.Index.{names_capacity, judge, judged, index_book, index_instant, index_average, index_listing, index_audit, index_rebuild}
use Rattle.calls.proofs.Judged.{judged_own, goes_on, judge_passes}

-- half is the image's own, and the rows ahead of every call pass
pub record Own (half : ℕ) (img : List ℕ) : Type 0 where
  pub named : Half half img
  pub passes : judge img ≡ 0

pub sound_own : (half : ℕ) (img : List ℕ) → sound_before half img ≡ true → Own half img
unfolding names_capacity
sound_own half img fits =
    let z = sized half img (sound_whole half img fits) in
    let l : 40 ≤ length img = omega (arith, z.size, mul-le-mul_left (page_size half) z.least) in
    let h = fit_half half (pages_in half img) img (sound_facts half img fits).fit.head_fits in
    record { named = h; passes = judge_passes img (record { long = le-ltb (length img) 40 l; named = h.named }) }

-- a call that the rows ahead let pass, by the image's own half
pub judged_half : (img : List ℕ) → judge img ≡ 0 → Own (half_of img) img
unfolding names_capacity
judged_half img e = record { named = own_half (goes_on img e).named; passes = e }

module _ {half : ℕ} {img : List ℕ} (o : Own half img) where
  own : {A : Type 0} (refused call : ℕ → A) → judged refused call img ≡ call half
  own refused call = judged_own refused call img o.passes ∙ ap call o.named.is

  pub own_book : (side : Side) (v : ℤ) (s e : ℕ) (scratch : List ℕ)
      → index_book side v s e img scratch ≡ book borrowed half side v s e img scratch
  unfolding index_book
  own_book side v s e scratch = own _ (λ half. book borrowed half side v s e img scratch)

  pub own_instant : (t : ℕ) → index_instant t img ≡ instant half t img
  unfolding index_instant
  own_instant t = own _ (λ half. instant half t img)

  pub own_average : (t : ℕ) → index_average t img ≡ average_at half t img
  unfolding index_average
  own_average t = own _ (λ half. average_at half t img)

  pub own_listing : (a b : ℕ) (out : List ℕ) → index_listing a b img out ≡ listing half a b img out
  unfolding index_listing
  own_listing a b out = own _ (λ half. listing half a b img out)

  pub own_audit : (scratch : List ℕ) → index_audit img scratch ≡ audit borrowed half img scratch
  unfolding index_audit
  own_audit scratch = own _ (λ half. audit borrowed half img scratch)

  pub own_rebuild : (target scratch : List ℕ) → index_rebuild img target scratch ≡ rebuild borrowed half img target scratch
  unfolding index_rebuild
  own_rebuild target scratch = own _ (λ half. rebuild borrowed half img target scratch)
