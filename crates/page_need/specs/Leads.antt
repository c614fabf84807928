-- What the counting of pages is given: entries of a sound image that lead to fit pages. Assumes nothing.
use Rattle.std.specs.Prelude.{ℕ, ◌*◌, zero, suc, ◌≤◌, ◌<◌, ◌≡◌, true, List}
use Rattle.page.specs.declared.Entry.{Entry}
use Rattle.page.specs.declared.Head.{Head}
use Rattle.page.specs.Layout.{head_of}
use Rattle.page.specs.Fit.{PageContext, most_height}
use Rattle.image.specs.Images.{page_at, pages_in, image_of}
use Rattle.image.specs.Sound.{tree_fit, sound_before}
use Rattle.store.specs.Encoding.{Encodes}
use Rattle.page_need.specs.declared.Need.{Need}

-- a need that no sum of a few wraps
pub record Small (n : Need) : Type 0 where
  pub adds : n.adds ≤ 2
  pub pages : n.pages ≤ 4 * most_height

-- Page p of level l is fit in a context that starts at t or before and ends at hi, and so are all pages below it. The bytes are those of
-- the image that they show.
pub record FitFrom (half : ℕ) (img : List ℕ) (t hi l p : ℕ) : Type 0 where
  pub head : Head
  pub at : PageContext
  pub holds : Encodes half img (image_of half img)
  pub size : pages_in half img ≡ head.pages
  pub least : 1 ≤ p
  pub inside : p < head.pages
  pub level : at.level ≡ l
  pub low : l < most_height
  pub begun : at.lo ≤ t
  pub ends : at.hi ≡ hi
  pub fit : tree_fit half head img l at p ≡ true

-- An entry of a level, which ends at hi, leads to such a page; a leaf's leads nowhere.
unfoldable pub Leads : ℕ → List ℕ → ℕ → ℕ → ℕ → Entry → Type 0
Leads half img t hi zero e = Unit {0}
Leads half img t hi (suc l) e = FitFrom half img t hi l e.child

-- A sound image, and the numbers of its head.
pub record SoundImage (half : ℕ) (img : List ℕ) (h : Head) : Type 0 where
  pub half_least : 2 ≤ half
  pub half_most : half ≤ 12
  pub sound : sound_before half img ≡ true
  pub shown : h ≡ head_of (page_at half img 0)
