-- How long the walk of a call can be, on every image, hostile ones too: how many pages it looks at, the head apart, and how many runs it
-- lists. A walk begins only where no row ahead of 21 turns the call back and the head is fit; the looks are defined without that. A change
-- begins with an audit. Assumes nothing.
use Rattle.std.specs.Prelude.{ℕ, ◌*◌, ◌-◌, ◌≤◌, ◌<◌, ◌≡◌, ◌≢◌, Bool, true, cond, List, [], ◌++◌, length, eqb}
use Rattle.page.specs.Layout.{capacity}
use Rattle.page.specs.Fit.{PageContext, root_context}
use Rattle.image.specs.Images.{pages_in}
use Rattle.image.specs.Sound.{tree_fit, tree_pages, sound_before}
use Rattle.lists.specs.Lists.{times}
use Rattle.image.specs.Trail.{Visit, all_fit, trail, instant_trail, listing_trail, audit_trail}
use Rattle.image.specs.Looks.{pages_of, found_fit, audit_looks}
use Rattle.calls.specs.Calls.{head, head_ok, runs_over, listing_status, listing}

-- the looks of a walk from the root, into whichever entries
abbrev pub looks : ℕ → List ℕ → (PageContext → List ℕ → ℕ → Bool) → List Visit
looks half img into = trail half (head half img) img into

-- Of such a walk on an image that is n pages long:
pub record ShortWalk (half : ℕ) (img : List ℕ) (into : PageContext → List ℕ → ℕ → Bool) : Type 0 where
  -- no page is found fit at two looks,
  pub once : (p : ℕ) → times p (found_fit half (head half img) img (looks half img into)) ≤ 1
  -- and each look is at a page of 1 to n − 1.
  pub inside : (p : ℕ) → 1 ≤ times p (pages_of (looks half img into)) → (1 ≤ p) × (p < pages_in half img)
  -- So if all are fit, there are n − 1 looks at most,
  pub fit : all_fit half (head half img) img (looks half img into) ≡ true
      → length (looks half img into) ≤ pages_in half img - 1
  -- and n in any case: the last look may be at a page seen before, which is unfit there.
  pub most : length (looks half img into) ≤ pages_in half img

-- A listing walks to count the runs, and once more to write them if it is accepted.
unfoldable pub listing_looks : ℕ → ℕ → ℕ → List ℕ → List ℕ → List ℕ
listing_looks half a b img out =
    let walk = pages_of (listing_trail half a b img) in
    walk ++ cond (eqb (listing_status half a b img out) 0) walk []

pub record ShortWalks (half : ℕ) : Type 0 where
  pub any : (img : List ℕ) (into : PageContext → List ℕ → ℕ → Bool) → head_ok half img ≡ true → ShortWalk half img into
  -- An instant: one look a level.
  pub of_instant : (t : ℕ) (img : List ℕ) → head_ok half img ≡ true → length (instant_trail half t img) ≤ (head half img).height
  -- A listing: n looks for each of its two walks.
  pub of_walk : (a b : ℕ) (img : List ℕ) → head_ok half img ≡ true → length (listing_trail half a b img) ≤ pages_in half img
  pub of_listing : (a b : ℕ) (img out : List ℕ) → head_ok half img ≡ true → length (listing_looks half a b img out) ≤ 2 * pages_in half img
  -- An audit as a whole: n looks, at tree, chain and pages never used together, each at a page of 1 to n − 1,
  pub of_audit : (img : List ℕ) → head_ok half img ≡ true → length (audit_looks half img) ≤ pages_in half img
  pub of_inside : (img : List ℕ) → head_ok half img ≡ true
      → (p : ℕ) → 1 ≤ times p (audit_looks half img) → (1 ≤ p) × (p < pages_in half img)
  -- and if the image is sound, one at each page.
  pub of_sound : (img : List ℕ) → sound_before half img ≡ true
      → (p : ℕ) → 1 ≤ p → p < pages_in half img → times p (audit_looks half img) ≡ 1
  -- "head and all tree pages are fit": the looks of an audit at the tree tell whether it is, and they are then at its pages in turn.
  pub of_tree : (img : List ℕ)
      → let h = head half img in
      (tree_fit half h img (h.height - 1) (root_context h) h.root ≡ all_fit half h img (audit_trail half img))
      × (tree_fit half h img (h.height - 1) (root_context h) h.root ≡ true
      → pages_of (audit_trail half img) ≡ tree_pages half img (h.height - 1) h.root)

-- An image of n pages shows at most as many runs as n − 1 pages have slots for entries.
pub record FewRuns (half : ℕ) : Type 0 where
  pub shown : (a b : ℕ) (img : List ℕ) → head_ok half img ≡ true → length (runs_over half a b img) ≤ capacity half * (pages_in half img - 1)
  -- A listing answers no more, whatever it is handed,
  pub answered : (a b : ℕ) (img out : List ℕ) → (listing half a b img out).runs ≤ capacity half * (pages_in half img - 1)
  -- and an output with room for so many is never too short.
  pub enough : (a b : ℕ) (img out : List ℕ) → 16 * (capacity half * (pages_in half img - 1)) ≤ length out
      → (listing half a b img out).status ≢ 15
