-- Where the check of neighbours may stand: at a page of a fit tree of kind 1. Its context is nowhere handed on. Assumes nothing.
use Rattle.std.specs.Prelude.{ℕ, ◌*◌, ◌≤◌, ◌<◌, ◌≡◌, true, List, length}
use Rattle.rule.specs.Time.{END}
use Rattle.page.specs.declared.Head.{Head}
use Rattle.page.specs.Layout.{page_size, entry_count}
use Rattle.page.specs.Fit.{PageContext, most_changes}
use Rattle.image.specs.Images.{page_at}
use Rattle.image.specs.Sound.{tree_fit}

-- page p, of level l, and all below it are fit in some context of an image of totals
pub record Standing (half : ℕ) (img : List ℕ) (l p : ℕ) : Type 0 where
  pub half_least : 2 ≤ half
  pub half_most : half ≤ 12
  pub head : Head
  pub size : length img ≡ page_size half * head.pages
  pub kind : head.kind ≡ 1
  pub changes : head.changes ≤ most_changes
  pub below : p < head.pages
  pub at : PageContext
  pub level : at.level ≡ l
  pub end : at.hi ≤ END
  pub fit : tree_fit half head img l at p ≡ true

-- an inner page, and its i-th entry
pub record Inner (half : ℕ) (img : List ℕ) (l p i : ℕ) : Type 0 where
  pub standing : Standing half img l p
  pub above : 1 ≤ l
  pub entry : i < entry_count (page_at half img p)
