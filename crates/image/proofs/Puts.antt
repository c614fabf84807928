-- The bytes of an image in which one page or the head changed: those of the image before with the page's bytes, or the head's numbers,
-- in their place. Assumes nothing.
use Prim.Native.Nat.{ℕ, zero, suc, ◌+◌, ◌*◌, ◌-◌, ◌≤◌, ◌<◌}
use mathlib.Core.Path.{◌≡◌, sym, ap, ◌∙◌}
use mathlib.Core.List.{List, ◌++◌}
use native.Mathlib.Nat.{mul-suc, add_comm}
use native.Mathlib.Omega.{arith}
use lib.ListN.{length}
use Rattle.fields.specs.Bytes.{patch}
use Rattle.fields.specs.Numbers.{u32_bytes}
use Rattle.lists.specs.Lists.{concat_map}
use Rattle.fields.proofs.Laws.Parts.{patch_append_right}
use Rattle.page.specs.declared.Head.{Head}
use Rattle.page.specs.Layout.{page_size, head_numbers, head_bytes}
use Rattle.page.proofs.Laws.Heads.{length_head, head_numbered}
use Rattle.image.specs.Images.{Image, cell_bytes, image_bytes, Canonical}
use Rattle.image.proofs.Rows.{rows, patch_rows}

module _ (half : ℕ) (some : 1 ≤ half) where
  -- page p of Y is written, and the other pages are the same
  pub put_page : (X Y : Image) (p : ℕ) → X.head ≡ Y.head → ((q : ℕ) → (q ≡ p → ⊥) → X.page q ≡ Y.page q)
      → ((q : ℕ) → 1 ≤ q → q < X.head.pages → Canonical half (X.page q))
      → length (cell_bytes half (Y.page p)) ≡ page_size half → 1 ≤ p → p < X.head.pages
      → patch (image_bytes half X) (page_size half * p) (cell_bytes half (Y.page p)) ≡ image_bytes half Y
  unfolding image_bytes
  put_page X Y zero h same kept sized l b = absurd (omega arith)
  put_page X Y (suc p) h same kept sized l b =
      let size : ℕ = page_size half in
      let n : ℕ = X.head.pages - 1 in
      let top : List ℕ = head_bytes half X.head in
      let f : ℕ → List ℕ = λ q. cell_bytes half (X.page (suc q)) in
      let g : ℕ → List ℕ = λ q. cell_bytes half (Y.page (suc q)) in
      let e : size * suc p ≡ length top + size * p = mul-suc size p ∙ add_comm (size * p) size
      ∙ ap (λ k. k + size * p) (sym (length_head half X.head some)) in
      ap (λ o. patch (top ++ rows f n) o (g p)) e
      ∙ patch_append_right top (rows f n) (size * p) (g p)
      ∙ ap (λ r. top ++ r)
      (patch_rows f g size n p (λ i m. (kept (suc i) (omega arith) (omega arith)).sized) sized
      (λ i d. ap (cell_bytes half) (same (suc i) (λ z. d (omega arith)))) (omega arith))
      ∙ (λ j. head_bytes half (h j) ++ rows g ((h j).pages - 1))

-- the head's numbers are written, and n stays
pub put_head : (half : ℕ) (X : Image) (h : Head) → h.pages ≡ X.head.pages
    → patch (image_bytes half X) 0 (concat_map u32_bytes (head_numbers h)) ≡ image_bytes half (record { head = h; page = X.page })
unfolding image_bytes
put_head half X h e =
    let f : ℕ → List ℕ = λ q. cell_bytes half (X.page (suc q)) in
    head_numbered half h X.head (rows f (X.head.pages - 1)) ∙ (λ j. head_bytes half h ++ rows f (sym e j - 1))
