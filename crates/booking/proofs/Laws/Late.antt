-- The rows that need the whole image, by the outcomes of the code's tests. Assumes nothing.
use Prim.Native.Nat.{ℕ}
use mathlib.Core.Path.{◌≡◌, ap, ◌∙◌}
use mathlib.Core.List.{List}
use Rattle.page.specs.declared.Head.{Head}
use Rattle.page.specs.Layout.{head_of}
use Rattle.image.specs.Images.{page_at}
use Rattle.calls.specs.Calls.{head}

pub head_read : (half : ℕ) (img : List ℕ) {h : Head} {page : List ℕ} → h ≡ head_of page → page ≡ page_at half img 0 → h ≡ head half img
unfolding head
head_read half img r p = r ∙ ap head_of p
