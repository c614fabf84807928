-- What the walks of the audit answer, and where they may stand. Assumes nothing.
use Rattle.std.specs.Prelude.{ℕ, ◌*◌, ◌≤◌, ◌<◌, ◌≡◌, Bool, true, ◌&&◌, Option, List, length, leb, ltb}
use Rattle.page.specs.declared.Head.{Head}
use Rattle.page.specs.Layout.{page_size, entry_count, child_at, free_ok}
use Rattle.page.specs.Fit.{PageContext, context_below, page_fit, most_changes}
use Rattle.image.specs.Images.{page_at}
use Rattle.image.specs.Sound.{tree_fit, tree_pages}
use Rattle.fit.specs.Paths.{Path}
use Rattle.std.specs.Bool.{then_some}

-- the tree from a page in its context down: how many pages it has, if all are fit
unfoldable pub page_count : ℕ → Head → List ℕ → PageContext → ℕ → Option ℕ
page_count half h img at p = then_some (tree_fit half h img at.level at p) (length (tree_pages half img at.level p))

-- the same from the page below the i-th entry of page p
abbrev pub page_count_below : ℕ → Head → List ℕ → PageContext → ℕ → ℕ → Option ℕ
page_count_below half h img at p i =
    let s = page_at half img p in
    page_count half h img (context_below half s at i) (child_at half s i)

-- the page below the i-th entry of page p is fit
abbrev pub fit_below : ℕ → Head → List ℕ → PageContext → ℕ → ℕ → Bool
fit_below half h img at p i =
    let s = page_at half img p in
    page_fit half h (context_below half s at i) (page_at half img (child_at half s i))

-- page p, of n, is free
unfoldable pub leads_to_free : ℕ → List ℕ → ℕ → ℕ → Bool
leads_to_free half img n p = leb 1 p && (ltb p n && free_ok half (page_at half img p))

-- a walk down from a fit head has come to page p and its context
pub record Standing (half : ℕ) (img : List ℕ) (h : Head) (at : PageContext) (p : ℕ) : Type 0 where
  pub half_least : 1 ≤ half
  pub half_most : half ≤ 12
  pub size : length img ≡ page_size half * h.pages
  pub most : h.pages ≤ 1024
  pub changes : h.changes ≤ most_changes
  pub above : ℕ
  pub path : Path h above at
  pub some : 1 ≤ p
  pub below : p < h.pages

-- it has found the page fit, and goes on below its i-th entry
pub record Inner (half : ℕ) (img : List ℕ) (h : Head) (at : PageContext) (p i : ℕ) : Type 0 where
  pub level : 1 ≤ at.level
  pub fit : page_fit half h at (page_at half img p) ≡ true
  pub entry : i < entry_count (page_at half img p)
