-- What a fit length and a fit head give. Assumes nothing.
use Rattle.std.proofs.Common.{Some, None}
use Rattle.std.specs.Bool.{then_some}
use Prim.Native.Nat.{ℕ, ◌*◌, ◌/◌, ◌<◌}
use mathlib.Core.Path.{◌≡◌, refl, sym, ap, ◌∙◌}
use mathlib.Core.Bool.{Bool, true, false, ◌&&◌}
use mathlib.Core.List.{List}
use native.Mathlib.Nat.{mul-div_cancel_left}
use native.Mathlib.Omega.{arith}
use lib.ListN.{length}
use lib.Dec.{eqb}
use borrow.Author.Tests.{eqb-true, eqb-false}
use Rattle.fields.proofs.Laws.Parts.{length_part}
use Rattle.page.specs.declared.Head.{Head}
use Rattle.page.specs.Layout.{page_size, head_of}
use Rattle.page.specs.Fit.{head_fit}
use Rattle.page.proofs.Laws.Offsets.{page_within}
use Rattle.fit.proofs.Laws.Heads.{Ranges, fit_ranges}
use Rattle.image.specs.Images.{page_at, pages_in, length_ok}
use Rattle.image.proofs.Sizes.{sized}
use Rattle.access.specs.Access.{PageIn, OpenImage, head_check}

-- a page that lies in the image has all its bytes
pub page_length : (half : ℕ) (img : List ℕ) (p : ℕ) → PageIn half img p → length (page_at half img p) ≡ page_size half
unfolding page_at
page_length half img p l = length_part img (page_size half * p) (page_size half) l

-- its pages are counted by a division
pub pages_counted : (half : ℕ) (img : List ℕ) {k : ℕ} → k ≡ page_size half → length img / k ≡ pages_in half img
unfolding pages_in
pages_counted half img e = ap (λ k. length img / k) e

module _ (half : ℕ) (img : List ℕ) where
  -- a head that is fit for its own number of pages, which the length has: so it is fit for the length
  pub own_pages : length_ok half img ≡ true
      → (eqb (page_size half * (head_of (page_at half img 0)).pages) (length img)
      && head_fit half (head_of (page_at half img 0)).pages (page_at half img 0))
      ≡ head_fit half (pages_in half img) (page_at half img 0)
  unfolding pages_in
  own_pages ok = go (eqb (page_size half * m) (length img)) refl (head_fit half (pages_in half img) s) refl
    where
      s : List ℕ
      s = page_at half img 0

      m : ℕ
      m = (head_of s).pages

      go : (b : Bool) → eqb (page_size half * m) (length img) ≡ b → (f : Bool) → head_fit half (pages_in half img) s ≡ f
          → (b && head_fit half m s) ≡ f
      go true e f g =
          let size : 0 < page_size half = omega arith in
          let same : pages_in half img ≡ m = ap (λ k. k / page_size half) (sym (eqb-true _ _ e)) ∙ mul-div_cancel_left m size in
          ap (λ n. head_fit half n s) (sym same) ∙ g
      go false e true g =
          let z = sized half img ok in
          let same = (fit_ranges half (pages_in half img) s g).pages_is in
          absurd (eqb-false _ _ e (ap (λ n. page_size half * n) same ∙ sym z.size))
      go false e false g = refl

  fits : (b : Bool) {h : Head} → Some h ≡ then_some b (head_of (page_at half img 0)) → (b ≡ true) × (h ≡ head_of (page_at half img 0))
  fits true e = (refl, cc)
  fits false e =
      let z : ◌≡◌ {A = ℕ} 0 1 = cc in
      absurd (omega arith)

  unfits : (b : Bool) → None ≡ then_some b (head_of (page_at half img 0)) → b ≡ false
  unfits true e =
      let z : ◌≡◌ {A = ℕ} 0 1 = cc in
      absurd (omega arith)
  unfits false e = refl

  -- an image that was opened, and one whose head is unfit
  pub opened : {h : Head} → length_ok half img ≡ true → Some h ≡ head_check half img → OpenImage half img h
  unfolding head_check
  opened ok e =
      let k = fits _ e in
      record { whole = ok; shown = k.1; fit = k.0 }

  pub shut : None ≡ head_check half img → head_fit half (pages_in half img) (page_at half img 0) ≡ false
  unfolding head_check
  shut e = unfits _ e

-- what is known of an image that was opened
module _ {half : ℕ} {img : List ℕ} {h : Head} (o : OpenImage half img h) where
  pub opened_ranges : Ranges half (pages_in half img) h
  opened_ranges = rw o.shown (fit_ranges half (pages_in half img) (page_at half img 0) o.fit)

  pub opened_size : length img ≡ page_size half * h.pages
  opened_size = (sized half img o.whole).size ∙ ap (λ n. page_size half * n) (sym opened_ranges.pages_is)

  -- every page that its head counts lies in it
  pub opened_within : (p : ℕ) → p < h.pages → PageIn half img p
  opened_within p l = omega (arith, opened_size, page_within half l)
