-- A page of an image that is lent: what it shows, and the image that it came back to. Assumes nothing.
use mathlib.Core.Path.{◌≡◌, sym, ap, ap₂, ◌∙◌}
use Prim.Native.Nat.{ℕ, ◌+◌, ◌*◌, ◌-◌, ◌≤◌}
use native.Mathlib.Nat.{mul-zero}
use native.Mathlib.Omega.{arith}
use mathlib.Core.List.{List}
use lib.ListN.{length}
use borrow.Rule.Slice.PartMut.{mid_of, put_mid}
use Rattle.fields.specs.Bytes.{part, patch}
use Rattle.fields.proofs.Laws.Lent.{lent_part, back_patch}

-- A page that is lent as `img[page_range(half, p)]`: what its bytes show.
module _ (img : List ℕ) (size p : ℕ) {a e : ℕ} (at : (a ≡ size * p) × (e ≡ size * p + size)) where
  pub lent_range : mid_of a (e - a) img ≡ part img (size * p) size
  lent_range = lent_part img a e size (omega arith) ∙ ap (λ k. part img k size) at.0

  -- The image once they came back as ys, which are as many (the call's `.auto`), and are bs.
  pub back_range : {ys bs : List ℕ} → size * p + size ≤ length img → length ys ≡ length (mid_of a (e - a) img) → ys ≡ bs
      → put_mid a (e - a) img ys ≡ patch img (size * p) bs
  back_range h l w = back_patch img a e _ (omega arith) (omega arith) l ∙ ap₂ (patch img) at.0 w

-- The same of the first page.
pub back_first : (img : List ℕ) (size : ℕ) {a e : ℕ} → (a ≡ size * 0) × (e ≡ size * 0 + size) → {ys bs : List ℕ} → size ≤ length img
    → length ys ≡ length (mid_of a (e - a) img) → ys ≡ bs → put_mid a (e - a) img ys ≡ patch img 0 bs
back_first img size at {bs = bs} h l w = back_range img size 0 at (omega arith) l w ∙ ap (λ o. patch img o bs) (mul-zero size)
