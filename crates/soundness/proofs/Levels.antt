-- Level fields: free pages show 255, pages never used 4,294,967,295, and past the image nothing is read. Assumes nothing.
use mathlib.Core.Path.{◌≡◌, ap, ◌∙◌}
use mathlib.Core.Bool.{true, and-eq-true_iff}
use mathlib.Core.List.{List}
use Prim.Native.Nat.{ℕ, ◌*◌, ◌≤◌, ◌<◌}
use native.Mathlib.Nat.{mul-le-mul_left}
use native.Mathlib.Omega.{arith}
use native.Mathlib.Decide.{dec_lt}
use lib.ListN.{length, take, drop_of_length-le}
use lib.Seq.{take-nil}
use borrow.Author.Tests.{eqb-true}
use Rattle.fields.specs.Bytes.{part}
use Rattle.fields.specs.Numbers.{num, u32_at}
use Rattle.page.specs.Layout.{page_size, level_of, free_ok, never_used_ok, free_level}
use Rattle.image.specs.Images.{page_at, pages_in, length_ok}
use Rattle.image.proofs.Sizes.{sized, page_length}
use Rattle.image.proofs.Cells.{never_level}

pub free_level_is : (half : ℕ) (s : List ℕ) → free_ok half s ≡ true → level_of s ≡ free_level
unfolding free_ok
free_level_is half s e = eqb-true _ _ (simp and-eq-true_iff at e).0

module _ (half : ℕ) (img : List ℕ) (ok : length_ok half img ≡ true) where
  -- past the image there are no bytes
  past_level : (p : ℕ) → pages_in half img ≤ p → level_of (page_at half img p) ≡ 0
  unfolding level_of u32_at page_at part num
  past_level p l =
      let past : length img ≤ page_size half * p = omega (arith, (sized half img ok).size, mul-le-mul_left (page_size half) l) in
      ap (λ r. num (take 4 (take (page_size half) r))) (drop_of_length-le img past) ∙ ap (λ r. num (take 4 r)) (take-nil (page_size half))

  -- a free page is one of the image's
  pub free_in : (p : ℕ) → free_ok half (page_at half img p) ≡ true → p < pages_in half img
  free_in p e = go (dec_lt p (pages_in half img))
    where
      go : Dec (p < pages_in half img) → p < pages_in half img
      go (yes l) = l
      go (no l) = absurd (omega (arith, free_level_is half (page_at half img p) e, past_level p (omega arith)))

  -- a page from the mark on, where all pages are FF, has neither a tree page's level nor a free page's
  pub used_below : (mark p : ℕ) → ((q : ℕ) → mark ≤ q → q < pages_in half img → never_used_ok (page_at half img q) ≡ true)
      → p < pages_in half img → level_of (page_at half img p) ≤ 255 → p < mark
  used_below mark p never l low = go (dec_lt p mark)
    where
      go : Dec (p < mark) → p < mark
      go (yes k) = k
      go (no k) =
          absurd
          (omega (
            arith,
            never_level (page_size half) (page_at half img p) (omega arith) (page_length (sized half img ok) p l) (never p (omega arith) l),
          ))
