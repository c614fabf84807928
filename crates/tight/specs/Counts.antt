-- Document 02, (iii): "in the fewest pages .. and so at each level up": what is counted, of any image. Assumes nothing.
use Rattle.std.specs.Prelude.{ℕ, ◌-◌, List, length}
use Rattle.lists.specs.Lists.{hit, sum}
use Rattle.rule.specs.Time.{END}
use Rattle.page.specs.Layout.{level_of, head_of}
use Rattle.image.specs.Images.{page_at}
use Rattle.image.specs.Sound.{tree_pages}
use Rattle.image.specs.Listing.{walk_over}

-- how many pages of level l an image's tree has
unfoldable pub pages_on : ℕ → List ℕ → ℕ → ℕ
pages_on half img l =
    let h = head_of (page_at half img 0) in
    sum (λ p. hit l (level_of (page_at half img p))) (tree_pages half img (h.height - 1) h.root)

-- how many runs a walk over all time finds, before any are joined: one for each leaf entry
unfoldable pub runs_walked : ℕ → List ℕ → ℕ
runs_walked half img = length (walk_over half img 0 END).runs
