-- What the test of an image's length says, and the bytes of its pages. Assumes nothing.
use Prim.Native.Nat.{ℕ, ◌*◌, ◌≤◌, ◌<◌}
use mathlib.Core.Path.{◌≡◌}
use mathlib.Core.Bool.{true, and-eq-true_iff}
use mathlib.Core.List.{List}
use native.Mathlib.Nat.{mul-le-mul_left}
use native.Mathlib.Omega.{arith}
use lib.ListN.{length}
use borrow.Author.Tests.{eqb-true, leb-true}
use Rattle.fields.proofs.Laws.Parts.{length_part}
use Rattle.page.specs.Layout.{page_size}
use Rattle.image.specs.Images.{page_at, pages_in, length_ok}

-- n pages of the bytes that the capacity asks, "n from 2 to 1,024"
pub record Sized (half : ℕ) (img : List ℕ) : Type 0 where
  pub size : length img ≡ page_size half * pages_in half img
  pub least : 2 ≤ pages_in half img
  pub most : pages_in half img ≤ 1024

pub sized : (half : ℕ) (img : List ℕ) → length_ok half img ≡ true → Sized half img
unfolding length_ok
sized half img ok =
    let k = simp and-eq-true_iff at ok in
    record { size = eqb-true _ _ k.0; least = leb-true _ _ k.1.0; most = leb-true _ _ k.1.1 }

-- each of its pages has all its bytes
pub page_length : {half : ℕ} {img : List ℕ} → Sized half img → (p : ℕ) → p < pages_in half img
    → length (page_at half img p) ≡ page_size half
unfolding page_at
page_length {half} {img} z p l =
    length_part img (page_size half * p) (page_size half) (omega (arith, z.size, mul-le-mul_left (page_size half) l))
