-- Document 02, (vi), "and give the same answers for every image", of what the functions for C promise; "those bytes are 0 afterwards" is
-- part of `Refusing`, row 17 of `ByStatus`. Assumes nothing.
use Rattle.std.specs.Prelude.{ℕ, ◌≤◌, ◌≡◌, ◌≢◌, List, length, ℤ}
use Rattle.image.specs.Images.{half_of, pages_in}
use Rattle.calls.specs.Changes.{Side}
use Rattle.calls.specs.Index.{index_book_bytewise, index_audit_bytewise, index_rebuild_bytewise}
use Rattle.luwhenoka.specs.Promises.{Books, Audits, Rebuilds}

pub record SameAnswers : Type 0 where
  -- those of the call of before, whatever it was lent, if neither was turned back for its scratch
  pub same_booking :
      (side : Side) (v : ℤ) (s e : ℕ) (img scratch : List ℕ) (r : ℕ) (after left : List ℕ) → Books side v s e img scratch r after left
      → (other : List ℕ) → r ≢ 17 → (index_book_bytewise side v s e img other).status ≢ 17
      → (r ≡ (index_book_bytewise side v s e img other).status) × (after ≡ (index_book_bytewise side v s e img other).image)
  pub same_audit :
      (img scratch : List ℕ) (r : ℕ) (left : List ℕ) → Audits img scratch r left
      → (other : List ℕ) → r ≢ 17 → (index_audit_bytewise img other).status ≢ 17 → r ≡ (index_audit_bytewise img other).status
  pub same_rebuild :
      (source target scratch : List ℕ) (r : ℕ) (after left : List ℕ) → Rebuilds source target scratch r after left
      → (other : List ℕ) → r ≢ 17 → (index_rebuild_bytewise source target other).status ≢ 17
      → (r ≡ (index_rebuild_bytewise source target other).status) × (after ≡ (index_rebuild_bytewise source target other).target)
  -- so too with one scratch that is long enough for both
  pub same_scratch_booking :
      (side : Side) (v : ℤ) (s e : ℕ) (img scratch : List ℕ) (r : ℕ) (after left : List ℕ) → Books side v s e img scratch r after left
      → pages_in (half_of img) img ≤ length scratch
      → (r ≡ (index_book_bytewise side v s e img scratch).status) × (after ≡ (index_book_bytewise side v s e img scratch).image)
  pub same_scratch_audit :
      (img scratch : List ℕ) (r : ℕ) (left : List ℕ) → Audits img scratch r left
      → pages_in (half_of img) img ≤ length scratch
      → r ≡ (index_audit_bytewise img scratch).status
  pub same_scratch_rebuild :
      (source target scratch : List ℕ) (r : ℕ) (after left : List ℕ) → Rebuilds source target scratch r after left
      → pages_in (half_of source) source ≤ length scratch
      → (r ≡ (index_rebuild_bytewise source target scratch).status) × (after ≡ (index_rebuild_bytewise source target scratch).target)
