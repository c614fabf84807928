-- Bytes that encode an image. A change in code works on bytes, its definitions on an `Image`; page 0 and the pages past the last are in no
-- byte, so contracts speak of every image that the bytes encode, and a caller carries one along. Assumes nothing.
use Rattle.std.specs.Prelude.{ℕ, ◌≤◌, ◌<◌, ◌≡◌, List}
use Rattle.page.specs.declared.Entry.{Entry}
use Rattle.page.specs.declared.Head.{Head}
use Rattle.page.specs.declared.Page.{Page}
use Rattle.page.specs.Layout.{capacity}
use Rattle.page.specs.Widths.{HeadFits}
use Rattle.image.specs.Images.{Image, Canonical, image_bytes}
use Rattle.edit.specs.Contents.{HasEntries}

-- the bytes are those of this image, with pages of a capacity that is in range: half of it is given
pub record Encodes (half : ℕ) (img : List ℕ) (X : Image) : Type 0 where
  pub half_least : 2 ≤ half
  pub half_most : half ≤ 12
  pub bytes : img ≡ image_bytes half X
  pub sized_kept : (p : ℕ) → 1 ≤ p → p < X.head.pages → Canonical half (X.page p)
  pub head_fits : HeadFits X.head
  pub pages_least : 2 ≤ X.head.pages
  pub pages_most : X.head.pages ≤ 1024

-- A function's precondition: the bytes encode some image that is ready for it.
pub record Pre (half : ℕ) (img : List ℕ) (Ready : Image → Type 0) : Type 0 where
  pub image : Image
  pub holds : Encodes half img image
  pub ready : Ready image

-- Its postcondition: so it goes for every image that the bytes encode and that is ready.
abbrev pub Post : ℕ → List ℕ → (Image → Type 0) → (Image → Type 0) → Type 0
Post half img Ready Goes = (X : Image) → Encodes half img X → Ready X → Goes X

-- nothing more is asked of the image
abbrev pub Any : Image → Type 0
Any X = Unit {0}

-- The same at a level that no parameter tells: the level is in the page that is read.
abbrev pub PreLevel : ℕ → List ℕ → (ℕ → Image → Type 0) → Type 0
PreLevel half img Ready = Pre half img (λ X. (level : ℕ) × Ready level X)

abbrev pub PostLevel : ℕ → List ℕ → (ℕ → Image → Type 0) → (ℕ → Image → Type 0) → Type 0
PostLevel half img Ready Goes = (X : Image) → Encodes half img X → (level : ℕ) → Ready level X → Goes level X

-- the decoded page has this level and these entries, as many as a written page can have
pub record Loaded (half l : ℕ) (es : List Entry) (r : Page) : Type 0 where
  pub shows : HasEntries l es r
  pub few : r.len ≤ capacity half

-- a head for the same number of pages
pub record SameSize (h : Head) (X : Image) : Type 0 where
  pub pages : h.pages ≡ X.head.pages

-- the image with that head and the same pages
abbrev pub with_head : Head → Image → Image
with_head h X = record { head = h; page = X.page }

-- The bytes of every such image have the head h then: its numbers stand at the same bytes for every capacity.
abbrev pub HeadSet : Head → List ℕ → List ℕ → Type 0
HeadSet h img after = (half : ℕ) → Post half img (SameSize h) (λ X. Encodes half after (with_head h X))
