-- The bytes of a page of the image. Assumes nothing.
use mathlib.Core.Path.{◌≡◌, ap, ◌∙◌}
use mathlib.Core.Bool.{true, and-eq-true_iff}
use mathlib.Core.List.{List}
use Prim.Native.Nat.{ℕ, ◌*◌, ◌/◌}
use native.Mathlib.Nat.{mul-div_right}
use native.Mathlib.Omega.{arith}
use lib.ListN.{length}
use borrow.Author.Tests.{ltb-true}
use Rattle.page.specs.Layout.{page_size}
use Rattle.page.proofs.Laws.Offsets.{page_within}
use Rattle.image.specs.Images.{pages_in}
use Rattle.access.specs.Access.{PageIn}
use Rattle.audit.specs.Walks.{leads_to_free}

pub pages_are : (half : ℕ) (img : List ℕ) (n : ℕ) → length img ≡ page_size half * n → pages_in half img ≡ n
unfolding pages_in
pages_are half img n e = ap (λ k. k / page_size half) e ∙ mul-div_right n (omega arith)

-- a page that is free lies in the image
pub free_within : (half : ℕ) (img : List ℕ) (n p : ℕ) → length img ≡ page_size half * n → leads_to_free half img n p ≡ true
    → PageIn half img p
unfolding leads_to_free
free_within half img n p e h =
    let parts = simp and-eq-true_iff at h in
    omega (arith, page_within half (ltb-true p n parts.1.0))
