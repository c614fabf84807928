-- Document 02, (vi), "Scratch of one bit per page", told in bits and apart from the bytes by which the calls are defined (`borrowed`,
-- Refusals.antt). "17 now means shorter than that" is row 17 of Tables.antt. Assumes nothing.
use Rattle.std.specs.Prelude.{ℕ, ◌+◌, ◌*◌, ◌/◌, ◌<◌, ◌≤◌, ◌≡◌, ◌≢◌, ◌⊎◌, List, length, get_or, ℤ}
use Rattle.image.specs.Images.{half_of, pages_in}
use Rattle.calls.specs.Changes.{Side}
use Rattle.calls.specs.Index.{index_book, index_audit, index_rebuild, index_book_bytewise, index_audit_bytewise, index_rebuild_bytewise}
use Rattle.calls.specs.Tables.{Exactly, BadField, WholePages, FewerBits, FewerBytes, judge_cases, book_cases, audit_cases, rebuild_cases}

-- "those bytes are 0 afterwards": each in which a page has its bit, eight pages to a byte. Document 01: "any beyond keep theirs", also
-- those of a caller who lends a byte for each page.
pub record BytesCleared (pages : ℕ) (scratch left : List ℕ) : Type 0 where
  pub size : length left ≡ length scratch
  -- a byte that isn't there reads as 1: each of these is there
  pub clear : (i : ℕ) → 8 * i < pages → get_or left i 1 ≡ 0
  pub beyond : (i : ℕ) → pages ≤ 8 * i → get_or left i 0 ≡ get_or scratch i 0

-- Document 01: "scratch is untouched at 16 and 17, also at 11 and 13"; document 02, (xi): at "a bad K"
unfoldable pub Untouched : List ℕ → ℕ → Type 0
Untouched img r = BadField img ⊎ ((r ≡ 16) ⊎ ((r ≡ 17) ⊎ ((r ≡ 11) ⊎ (r ≡ 13))))

-- Document 02, (iii): "16, 17, 21 (not sound) of the source first, then 16 of the target (scratch 0)". So a rebuild's 16 doesn't tell
-- whether its scratch is untouched: that goes by source and scratch alone, where the length or the capacity of the one or the length of
-- the other turns it back.
unfoldable pub NotBegun : List ℕ → List ℕ → Type 0
NotBegun source scratch =
    (length source < 40)
    ⊎ (BadField source ⊎ ((¬ WholePages (half_of source) source) ⊎ FewerBits (pages_in (half_of source) source) scratch))

-- what a call on so many pages leaves of its scratch, which is untouched where `Kept` holds
pub record ScratchLeft (Kept : Type 0) (pages : ℕ) (scratch left : List ℕ) : Type 0 where
  pub untouched : Kept → left ≡ scratch
  pub clears : ¬ Kept → BytesCleared pages scratch left

-- a booking or an audit that returned r, and a rebuild
abbrev pub LeftAt : List ℕ → List ℕ → ℕ → List ℕ → Type 0
LeftAt img scratch r left = ScratchLeft (Untouched img r) (pages_in (half_of img) img) scratch left

abbrev pub LeftByRebuild : List ℕ → List ℕ → List ℕ → Type 0
LeftByRebuild source scratch left = ScratchLeft (NotBegun source scratch) (pages_in (half_of source) source) scratch left

-- "n/8 bytes, rounded up", or as many as the greatest image needs: "The small controller can spare 128 bytes"
unfoldable pub Enough : ℕ → List ℕ → Type 0
Enough pages scratch = ((pages + 7) / 8 ≤ length scratch) ⊎ (128 ≤ length scratch)

pub record BitPerPage : Type 0 where
  pub enough_booking :
      (side : Side) (v : ℤ) (s e : ℕ) (img scratch : List ℕ)
      → Enough (pages_in (half_of img) img) scratch
      → (index_book side v s e img scratch).status ≢ 17
  pub enough_audit : (img scratch : List ℕ) → Enough (pages_in (half_of img) img) scratch → (index_audit img scratch).status ≢ 17
  pub enough_rebuild :
      (source target scratch : List ℕ)
      → Enough (pages_in (half_of source) source) scratch
      → (index_rebuild source target scratch).status ≢ 17
  -- The calls of before go by document 01's table, with its row 17; so would a rebuild that borrows as they did.
  pub of_booking_bytewise :
      (side : Side) (v : ℤ) (s e : ℕ) (img scratch : List ℕ)
      → Exactly (judge_cases img (book_cases (half_of img) FewerBytes side v s e img scratch))
      (index_book_bytewise side v s e img scratch).status
  pub of_audit_bytewise :
      (img scratch : List ℕ)
      → Exactly (judge_cases img (audit_cases (half_of img) FewerBytes img scratch)) (index_audit_bytewise img scratch).status
  pub of_rebuild_bytewise :
      (source target scratch : List ℕ)
      → Exactly (judge_cases source (rebuild_cases (half_of source) FewerBytes source target scratch))
      (index_rebuild_bytewise source target scratch).status
  -- "and give the same answers for every image": where neither the call nor that of before is turned back for its scratch, whatever each
  -- is lent, status and image are the same
  pub same_booking :
      (side : Side) (v : ℤ) (s e : ℕ) (img scratch other : List ℕ)
      → (index_book side v s e img scratch).status ≢ 17
      → (index_book_bytewise side v s e img other).status ≢ 17
      → ((index_book side v s e img scratch).status ≡ (index_book_bytewise side v s e img other).status)
      × ((index_book side v s e img scratch).image ≡ (index_book_bytewise side v s e img other).image)
  pub same_audit :
      (img scratch other : List ℕ)
      → (index_audit img scratch).status ≢ 17
      → (index_audit_bytewise img other).status ≢ 17
      → (index_audit img scratch).status ≡ (index_audit_bytewise img other).status
  pub same_rebuild :
      (source target scratch other : List ℕ)
      → (index_rebuild source target scratch).status ≢ 17
      → (index_rebuild_bytewise source target other).status ≢ 17
      → ((index_rebuild source target scratch).status ≡ (index_rebuild_bytewise source target other).status)
      × ((index_rebuild source target scratch).target ≡ (index_rebuild_bytewise source target other).target)
  -- so too with one scratch that is long enough for both
  pub same_scratch_booking :
      (side : Side) (v : ℤ) (s e : ℕ) (img scratch : List ℕ)
      → pages_in (half_of img) img ≤ length scratch
      → ((index_book side v s e img scratch).status ≡ (index_book_bytewise side v s e img scratch).status)
      × ((index_book side v s e img scratch).image ≡ (index_book_bytewise side v s e img scratch).image)
  pub same_scratch_audit :
      (img scratch : List ℕ)
      → pages_in (half_of img) img ≤ length scratch
      → (index_audit img scratch).status ≡ (index_audit_bytewise img scratch).status
  pub same_scratch_rebuild :
      (source target scratch : List ℕ)
      → pages_in (half_of source) source ≤ length scratch
      → ((index_rebuild source target scratch).status ≡ (index_rebuild_bytewise source target scratch).status)
      × ((index_rebuild source target scratch).target ≡ (index_rebuild_bytewise source target scratch).target)
