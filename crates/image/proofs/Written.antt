-- The bytes of an image whose pages are kept: how many there are, and what each page is. Assumes nothing.
use Prim.Native.Nat.{ℕ, zero, suc, ◌+◌, ◌*◌, ◌-◌, ◌/◌, ◌≤◌, ◌<◌}
use mathlib.Core.Path.{◌≡◌, refl, sym, ap, ◌∙◌}
use mathlib.Core.Bool.{true, and-eq-true_iff}
use mathlib.Core.List.{List, [], ◌++◌}
use native.Mathlib.Nat.{mul-zero, mul-suc, add_comm, mul-div_cancel_left}
use native.Mathlib.Omega.{arith}
use lib.ListN.{length, length-append}
use borrow.Author.Tests.{eq-eqb, le-leb}
use Rattle.fields.specs.Bytes.{Bytes, part}
use Rattle.fields.proofs.Laws.Parts.{part_middle, part_append_right}
use Rattle.fields.proofs.Laws.Digits.{bytes_append}
use Rattle.page.specs.Layout.{page_size, head_of, head_bytes}
use Rattle.lists.specs.Lists.{listed}
use Rattle.page.specs.Widths.{HeadFits}
use Rattle.page.proofs.Laws.Heads.{bytes_head, length_head, head_of_head}
use Rattle.page.proofs.Laws.Concat.{bytes_joined}
use Rattle.image.specs.Images.{Image, page_at, pages_in, length_ok, cell_of, cell_bytes, image_of, image_bytes, Canonical}
use Rattle.image.proofs.Cells.{bytes_cell}
use Rattle.image.proofs.Rows.{rows, length_rows, part_rows}

pub bytes_written : (half : ℕ) (X : Image) → Bytes (image_bytes half X)
unfolding image_bytes
bytes_written half X =
    let cell : ℕ → List ℕ = λ p. cell_bytes half (X.page (suc p)) in
    bytes_append (head_bytes half X.head) (rows cell (X.head.pages - 1)) (bytes_head half X.head)
    (bytes_joined cell (λ p. bytes_cell half (X.page (suc p))) (listed (X.head.pages - 1) (λ p. p)))

module _ (half : ℕ) (X : Image) (some : 1 ≤ half) (one : 1 ≤ X.head.pages) (kept : (p : ℕ) → 1 ≤ p → p < X.head.pages
    → Canonical half (X.page p)) where
  cell : ℕ → List ℕ
  cell p = cell_bytes half (X.page (suc p))

  cell_sized : (i : ℕ) → i < X.head.pages - 1 → length (cell i) ≡ page_size half
  unfolding cell
  cell_sized i l = (kept (suc i) (omega arith) (omega arith)).sized

  image_is : image_bytes half X ≡ head_bytes half X.head ++ rows cell (X.head.pages - 1)
  unfolding image_bytes cell
  image_is = refl

  pub length_of_written : length (image_bytes half X) ≡ page_size half * X.head.pages
  length_of_written =
      let size : ℕ = page_size half in
      let n : ℕ = X.head.pages in
      let u : suc (n - 1) ≡ n = omega arith in
      ap length image_is
      ∙ length-append (head_bytes half X.head) (rows cell (n - 1))
      ∙ (λ j. length_head half X.head some j + length_rows cell size (n - 1) cell_sized j)
      ∙ add_comm size (size * (n - 1))
      ∙ sym (mul-suc size (n - 1))
      ∙ ap (λ k. size * k) u

  pub pages_of_written : pages_in half (image_bytes half X) ≡ X.head.pages
  unfolding pages_in
  pages_of_written = ap (λ m. m / page_size half) length_of_written ∙ mul-div_cancel_left X.head.pages (omega arith)

  pub head_written : page_at half (image_bytes half X) 0 ≡ head_bytes half X.head
  unfolding page_at
  head_written =
      (λ j. part (image_is j) (mul-zero (page_size half) j) (page_size half))
      ∙ part_middle [] (head_bytes half X.head) (rows cell (X.head.pages - 1)) 0 (page_size half) refl
      (length_head half X.head some)

  pub page_of_written : (p : ℕ) → 1 ≤ p → p < X.head.pages → page_at half (image_bytes half X) p ≡ cell_bytes half (X.page p)
  unfolding page_at cell
  page_of_written zero l b = absurd (omega arith)
  page_of_written (suc p) l b =
      let size : ℕ = page_size half in
      let e : size * suc p ≡ length (head_bytes half X.head) + size * p =
      mul-suc size p ∙ add_comm (size * p) size ∙ ap (λ k. k + size * p) (sym (length_head half X.head some)) in
      (λ j. part (image_is j) (e j) size)
      ∙ part_append_right (head_bytes half X.head) (rows cell (X.head.pages - 1)) (size * p) size
      ∙ part_rows cell size (X.head.pages - 1) cell_sized p (omega arith)

  pub page_of_read : (p : ℕ) → 1 ≤ p → p < X.head.pages → (image_of half (image_bytes half X)).page p ≡ X.page p
  unfolding image_of
  page_of_read p l b = ap (cell_of half) (page_of_written p l b) ∙ (kept p l b).again

  pub head_of_read : HeadFits X.head → (image_of half (image_bytes half X)).head ≡ X.head
  unfolding image_of
  head_of_read fits = ap head_of head_written ∙ head_of_head half X.head fits

  pub length_of_fits : 2 ≤ X.head.pages → X.head.pages ≤ 1024 → length_ok half (image_bytes half X) ≡ true
  unfolding length_ok
  length_of_fits least most =
      let n : ℕ = pages_in half (image_bytes half X) in
      let e : n ≡ X.head.pages = pages_of_written in
      let a : 2 ≤ n = omega arith in
      let b : n ≤ 1024 = omega arith in
      simp and-eq-true_iff (eq-eqb _ _ (length_of_written ∙ ap (λ k. page_size half * k) (sym e)), (le-leb _ _ a, le-leb _ _ b))
