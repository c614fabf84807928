-- An image that a call may go to work on. Assumes nothing.
use Rattle.std.specs.Prelude.{ℕ, ◌+◌, ◌*◌, ◌≤◌, ◌≡◌, true, Option, List, length}
use Rattle.std.specs.Bool.{then_some}
use Rattle.page.specs.declared.Head.{Head}
use Rattle.page.specs.Layout.{page_size, head_of}
use Rattle.page.specs.Fit.{head_fit}
use Rattle.image.specs.Images.{page_at, pages_in, length_ok}

-- page p lies in the image
abbrev pub PageIn : ℕ → List ℕ → ℕ → Type 0
PageIn half img p = page_size half * p + page_size half ≤ length img

-- An image of a length in range whose head is fit, and the numbers of its head.
pub record OpenImage (half : ℕ) (img : List ℕ) (h : Head) : Type 0 where
  pub whole : length_ok half img ≡ true
  pub shown : h ≡ head_of (page_at half img 0)
  pub fit : head_fit half (pages_in half img) (page_at half img 0) ≡ true

-- what the head's page shows: the numbers of a fit head
unfoldable pub head_check : ℕ → List ℕ → Option Head
head_check half img = then_some (head_fit half (pages_in half img) (page_at half img 0)) (head_of (page_at half img 0))
