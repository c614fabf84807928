-- Bytes that encode an image: how many they are, what is read from them, and what they hold once a page or the head is written.
-- Assumes nothing.
use Prim.Native.Nat.{ℕ, ◌+◌, ◌*◌, ◌/◌, ◌≤◌, ◌<◌, min}
use mathlib.Core.Path.{◌≡◌, sym, ap, ◌∙◌}
use mathlib.Core.List.{List}
use native.Mathlib.Omega.{arith}
use lib.Dec.{eqb}
use lib.ListN.{length}
use Rattle.lists.proofs.Choices.{either}
use Rattle.fields.specs.Bytes.{patch}
use Rattle.fields.specs.Numbers.{u32_bytes}
use Rattle.fields.proofs.Laws.Parts.{length_part}
use Rattle.lists.specs.Lists.{concat_map}
use Rattle.page.specs.declared.Entry.{Entry}
use Rattle.page.specs.declared.Head.{Head}
use Rattle.page.specs.declared.Page.{Page}
use Rattle.page.specs.Layout.{capacity, page_size, level_of, entry_count, entries_of, next_of, head_of, head_numbers, tree_bytes}
use Rattle.page.specs.Decoded.{Read}
use Rattle.page.specs.Widths.{HeadFits}
use Rattle.page.proofs.Laws.Heads.{head_of_head}
use Rattle.page.proofs.Laws.Offsets.{page_within}
use Rattle.page.proofs.Laws.Trees.{length_entries_of, number_of_tree}
use Rattle.image.specs.Images.{Image, Cell, tree, free, page_at, pages_in, cell_of, cell_bytes, image_bytes, Canonical}
use Rattle.image.proofs.Cells.{tree_cell, free_cell}
use Rattle.image.proofs.Written.{length_of_written, pages_of_written, head_written, page_of_written}
use Rattle.image.proofs.Puts.{put_page, put_head as put_head_bytes}
use Rattle.steps.specs.Supply.{put, entries}
use Rattle.steps.proofs.Supply.{put_at, put_other, put_head}
use Rattle.store.specs.Encoding.{Encodes, Pre, Loaded, SameSize, with_head}
use Rattle.store.specs.Preconditions.{InImage, TreePage}

-- ---- what the bytes are

pub tree_written : (half : ℕ) {c : Cell} {l : ℕ} {es : List Entry} → c ≡ tree l es → cell_bytes half c ≡ tree_bytes half l es
unfolding cell_bytes
tree_written half e = ap (cell_bytes half) e

-- the page's bytes are those of a tree page
pub record TreeRead (half : ℕ) (s : List ℕ) (l : ℕ) (es : List Entry) : Type 0 where
  pub level : level_of s ≡ l
  pub entries : entries_of half s ≡ es
  pub len : entry_count s ≡ length es
  pub few : length es ≤ capacity half

module _ {half : ℕ} {img : List ℕ} {X : Image} (h : Encodes half img X) where
  pub holds_length : length img ≡ page_size half * X.head.pages
  holds_length = ap length h.bytes ∙ length_of_written half X (omega (arith, h.half_least)) (omega (arith, h.pages_least))
      h.sized_kept

  -- page 0, and so the head's numbers
  pub holds_first : page_size half * 0 + page_size half ≤ length img
  holds_first =
      let some : 0 < X.head.pages = omega (arith, h.pages_least) in
      omega (arith, holds_length, page_within half some)

  pub holds_numbers : 40 ≤ length img
  holds_numbers = omega (arith, holds_first, h.half_least)

  pub holds_pages : pages_in half img ≡ X.head.pages
  holds_pages =
      ap (pages_in half) h.bytes ∙ pages_of_written half X (omega (arith, h.half_least)) (omega (arith, h.pages_least)) h.sized_kept

  pub holds_head : head_of (page_at half img 0) ≡ X.head
  holds_head =
      ap (λ s. head_of (page_at half s 0)) h.bytes
      ∙ ap head_of (head_written half X (omega (arith, h.half_least)) (omega (arith, h.pages_least)) h.sized_kept)
      ∙ head_of_head half X.head h.head_fits

  module _ {p : ℕ} (w : InImage p X) where
    pub holds_within : page_size half * p + page_size half ≤ length img
    holds_within = omega (arith, holds_length, page_within half w.below)

    -- its bytes, lent as s
    pub holds_size : {s : List ℕ} → s ≡ page_at half img p → length s ≡ page_size half
    unfolding page_at
    holds_size same = ap length same ∙ length_part img (page_size half * p) (page_size half) holds_within

    pub holds_page : page_at half img p ≡ cell_bytes half (X.page p)
    holds_page =
        ap (λ s. page_at half s p) h.bytes
        ∙ page_of_written half X (omega (arith, h.half_least)) (omega (arith, h.pages_least)) h.sized_kept p w.least w.below

    holds_cell : cell_of half (page_at half img p) ≡ X.page p
    holds_cell = ap (cell_of half) holds_page ∙ (h.sized_kept p w.least w.below).again

    pub holds_next : {next : ℕ} → X.page p ≡ free next → next_of (page_at half img p) ≡ next
    holds_next e = free_cell half (page_at half img p) (holds_cell ∙ e)

  module _ {l p : ℕ} (t : TreePage l p X) where
    pub tree_read : TreeRead half (page_at half img p) l (entries X p)
    tree_read =
        let s : List ℕ = page_at half img p in
        let es : List Entry = entries X p in
        let c : (level_of s ≡ l) × (entries_of half s ≡ es) = tree_cell half s (holds_cell t.within ∙ t.page) in
        let size : length es ≡ min (entry_count s) (capacity half) = ap length (sym c.1) ∙ length_entries_of half s in
        let n : entry_count s ≡ length es =
        ap entry_count (holds_page t.within ∙ tree_written half t.page)
        ∙ number_of_tree half l es (omega arith) (omega (arith, h.half_most)) in
        record { level = c.0; entries = c.1; len = n; few = omega arith }

    pub holds_tree : {r : Page} → Read half r (page_at half img p) → Loaded half l (entries X p) r
    holds_tree read =
        let b = tree_read in
        record {
          shows = record { level = read.level ∙ b.level; entries = read.entries (omega (arith, b.len, b.few)) ∙ b.entries };
          few = omega (arith, read.len, b.len, b.few);
        }

-- bytes of the same length encode images of as many pages
pub same_pages : {half : ℕ} {img img' : List ℕ} {X Y : Image} → Encodes half img X → Encodes half img' Y → length img' ≡ length img
    → Y.head.pages ≡ X.head.pages
unfolding pages_in
same_pages {half} h k size = sym (holds_pages k) ∙ ap (λ n. n / page_size half) size ∙ holds_pages h

module _ {half : ℕ} {img : List ℕ} {p : ℕ} (k : Pre half img (InImage p)) where
  pub some_long : page_size half * p + page_size half ≤ length img
  some_long = holds_within k.holds k.ready

  -- the page's bytes, lent as s
  pub some_size : {s : List ℕ} → s ≡ page_at half img p → length s ≡ page_size half
  some_size same = holds_size k.holds k.ready same

-- what a function asks, taken apart: some image that the bytes encode and that is ready
pub from : {half : ℕ} {img : List ℕ} {Ready : Image → Type 0} {A : Type 0} → Pre half img Ready
    → ((X : Image) → Encodes half img X → Ready X → A) → A
from s f = f s.image s.holds s.ready

-- the image that they hold is ready for something else too
pub readied : {half : ℕ} {img : List ℕ} {Ready Other : Image → Type 0} → Pre half img Ready
    → ((X : Image) → Encodes half img X → Ready X → Other X) → Pre half img Other
readied s f = record { image = s.image; holds = s.holds; ready = f s.image s.holds s.ready }

-- ---- what they hold then

put_kept : (half : ℕ) (X : Image) (p : ℕ) (c : Cell) → Canonical half c → (q : ℕ) → Canonical half (X.page q)
    → Canonical half ((put p c X).page q)
unfolding put
put_kept half X p c k q old = either (Canonical half) k old (eqb q p)

pub put_bytes : (half : ℕ) → 1 ≤ half → (X : Image) (p : ℕ) (c : Cell) → ((q : ℕ) → 1 ≤ q → q < X.head.pages → Canonical half (X.page q))
    → length (cell_bytes half c) ≡ page_size half → 1 ≤ p → p < X.head.pages
    → patch (image_bytes half X) (page_size half * p) (cell_bytes half c) ≡ image_bytes half (put p c X)
put_bytes half some X p c kept sized l b =
    let here : (put p c X).page p ≡ c = put_at p c X in
    ap (λ d. patch (image_bytes half X) (page_size half * p) (cell_bytes half d)) (sym here)
    ∙ put_page half some X (put p c X) p (sym (put_head p c X)) (λ q d. sym (put_other p c X q d)) kept
    (ap (λ d. length (cell_bytes half d)) here ∙ sized) l b

module _ {half : ℕ} {img : List ℕ} {X : Image} (h : Encodes half img X) where
  pub holds_put : {p : ℕ} {after : List ℕ} (c : Cell) → InImage p X → Canonical half c
      → after ≡ patch img (page_size half * p) (cell_bytes half c)
      → Encodes half after (put p c X)
  unfolding put
  holds_put {p} c w k e =
      record {
        half_least = h.half_least;
        half_most = h.half_most;
        bytes =
            e
            ∙ ap (λ l. patch l (page_size half * p) (cell_bytes half c)) h.bytes
            ∙ put_bytes half (omega (arith, h.half_least)) X p c h.sized_kept k.sized w.least w.below;
        sized_kept = λ q l b. put_kept half X p c k q (h.sized_kept q l b);
        head_fits = h.head_fits;
        pages_least = h.pages_least;
        pages_most = h.pages_most;
      }

  pub holds_with_head : {after : List ℕ} (head : Head) → SameSize head X → HeadFits head
      → after ≡ patch img 0 (concat_map u32_bytes (head_numbers head)) → Encodes half after (with_head head X)
  holds_with_head head s fits e =
      record {
        half_least = h.half_least;
        half_most = h.half_most;
        bytes = e ∙ ap (λ l. patch l 0 (concat_map u32_bytes (head_numbers head))) h.bytes ∙ put_head_bytes half X head s.pages;
        sized_kept = λ q l b. h.sized_kept q l (omega (arith, s.pages));
        head_fits = fits;
        pages_least = omega (arith, s.pages, h.pages_least);
        pages_most = omega (arith, s.pages, h.pages_most);
      }
