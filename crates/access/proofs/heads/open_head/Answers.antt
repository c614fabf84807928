-- `access::heads::open_head` meets its contract: what is tested and read is the image's first page. Assumes nothing.
use Rattle.std.proofs.Common.{◌≡◌, ◌*◌, ◌&&◌, ◌<◌, eqb, length, List, ℕ, Bool, true, sym, ap, ◌∙◌, arith}
use Rattle.std.specs.Bool.{then_some}
use Rattle.page.specs.declared.Head.{Head}
use Rattle.page.specs.Layout.{page_size, head_of}
use Rattle.page.specs.Fit.{head_fit}
use Rattle.page.proofs.Laws.Offsets.{page_within}
use Rattle.image.specs.Images.{pages_in, page_at, length_ok}
use Rattle.image.proofs.Sizes.{sized}
use Rattle.access.specs.Access.{PageIn, head_check}
use Rattle.access.proofs.Laws.{page_length, own_pages}
use Rattle.access.proofs.heads.open_head.Goals as goal
use Rattle.access.proofs.heads.open_head.Goals.{then-half-eq-MOST_HALF, else-half-eq-MOST_HALF}

-- an image has a first page
first : (half : ℕ) (img : List ℕ) → length_ok half img ≡ true → PageIn half img 0
first half img ok =
    let z = sized half img ok in
    let one : 0 < pages_in half img = omega (arith, z.least) in
    omega (arith, z.size, page_within half one)

page_long : (half : ℕ) (img s : List ℕ) → length_ok half img ≡ true → s ≡ page_at half img 0 → length s ≡ page_size half
page_long half img s ok e = ap length e ∙ page_length _ _ 0 (first half img ok)

-- whichever of the two tests it was
tested : (half : ℕ) (img s : List ℕ) (h : Head) (size : ℕ) (fit : Bool) → length_ok half img ≡ true → s ≡ page_at half img 0
    → h ≡ head_of s → size ≡ page_size half → fit ≡ head_fit half h.pages s
    → then_some (eqb (size * h.pages) (length img) && fit) h ≡ head_check half img
unfolding head_check
tested half img s h size fit ok shown read sized fits =
    let same = read ∙ ap head_of shown in
    (λ j. then_some (eqb (sized j * (same j).pages) (length img) && (fits ∙ (λ i. head_fit half (same i).pages (shown i))) j) (same j))
    ∙ ap (λ b. then_some b (head_of (page_at half img 0))) (own_pages half img ok)

pub page_at-s-requires : goal.page_at-s-requires
page_at-s-requires c = first _ _ c.requires.2

pub read_head-h-requires : goal.read_head-h-requires
read_head-h-requires c = omega (arith, page_long _ _ _ c.requires.2 c.page_at-s.ensures)

pub head_fit-fits-requires : goal.head_fit-fits-requires
head_fit-fits-requires c =
    (omega arith, omega arith, page_long _ _ _ c.requires.2 c.page_at-s.ensures ∙ ap page_size c.if-half-eq-MOST_HALF.true)

pub head_fit-fits-requires-else-half-eq-MOST_HALF : goal.head_fit-fits-requires-else-half-eq-MOST_HALF
head_fit-fits-requires-else-half-eq-MOST_HALF c =
    (c.requires.0, c.requires.1, page_long _ _ _ c.requires.2 c.page_at-s.ensures)

pub returns : goal.returns
returns c =
    c.then_some.ensures
    ∙ tested _ _ _ _ _ _ c.requires.2 c.page_at-s.ensures c.read_head-h.ensures c.page_size.ensures
    (elim c.if-half-eq-MOST_HALF.branch [
      | then-half-eq-MOST_HALF w ↦
          w.fits-is ∙ w.head_fit-fits.ensures
          ∙ ap (λ k. head_fit k c.read_head-h.result.pages c.page_at-s.result.now) (sym w.if-half-eq-MOST_HALF.true)
      | else-half-eq-MOST_HALF w ↦ w.fits-is ∙ w.head_fit-fits-else-half-eq-MOST_HALF.ensures
    ])
