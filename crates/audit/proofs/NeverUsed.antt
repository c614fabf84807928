-- Pages that were never used, one behind another, are a run of unused bytes. Assumes nothing.
use mathlib.Core.Path.{◌≡◌, sym, ap, ◌∙◌}
use mathlib.Core.Bool.{◌&&◌}
use mathlib.Core.List.{List}
use Prim.Native.Nat.{ℕ, zero, suc, ◌+◌, ◌*◌}
use native.Mathlib.Nat.{mul-add, mul-suc, mul-zero}
use Rattle.fields.specs.Bytes.{part, all_are, every}
use Rattle.fields.proofs.Laws.Parts.{part_add}
use Rattle.fields.proofs.Laws.Tests.{all_are_none, all_are_append}
use Rattle.page.specs.Layout.{page_size, never_used_ok}
use Rattle.image.specs.Images.{page_at}

pub pages_unused : (half : ℕ) (img : List ℕ) (m k : ℕ)
    → all_are 255 (part img (page_size half * m) (page_size half * k)) ≡ every k (λ i. never_used_ok (page_at half img (m + i)))
unfolding every never_used_ok page_at
pages_unused half img m zero =
    ap (λ n. all_are 255 (part img (page_size half * m) n)) (mul-zero (page_size half)) ∙ all_are_none 255 img (page_size half * m)
pages_unused half img m (suc k) =
    let size : ℕ = page_size half in
    let a : ℕ = size * m in
    ap (λ n. all_are 255 (part img a n)) (mul-suc size k)
    ∙ ap (all_are 255) (part_add img a (size * k) size)
    ∙ all_are_append 255 (part img a (size * k)) (part img (a + size * k) size)
    ∙ (λ j. pages_unused half img m k j && all_are 255 (part img (sym (mul-add size m k) j) size))
