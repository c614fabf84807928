-- Demand 1's "with image and output as before", of what the functions for C promise. Assumes nothing.
use Rattle.std.specs.Prelude.{ℕ, ◌≡◌, ◌≢◌, List, ℤ, pos}
use Rattle.image.specs.Images.{half_of}
use Rattle.calls.specs.Changes.{Side}
use Rattle.calls.specs.Calls.{head}
use Rattle.calls.specs.Scratch.{LeftAt, LeftByRebuild}
use Rattle.luwhenoka.specs.declared.InstantAnswer.{InstantAnswer}
use Rattle.luwhenoka.specs.declared.AverageAnswer.{AverageAnswer}
use Rattle.luwhenoka.specs.declared.ListingAnswer.{ListingAnswer}
use Rattle.luwhenoka.specs.Promises.{Formats, Books, Answers, Averages, Lists, Audits, Rebuilds}

-- "A refusal returns its number and zeros (instant: the pages read too). Image and output keep their bytes; scratch is untouched at 16
-- and 17, also at 11 and 13, else its n bytes are 0." Document 02, (xi): at a bad capacity too; (vi): its n bytes are those borrowed. That
-- every call returns is part of its function's proof.
pub record Refusing : Type 0 where
  pub of_format :
      (kind window k : ℕ) (img : List ℕ) (r : ℕ) (after : List ℕ) → Formats kind window k img r after → r ≢ 0 → after ≡ img
  pub of_booking :
      (side : Side) (v : ℤ) (s e : ℕ) (img scratch : List ℕ) (r : ℕ) (after left : List ℕ) → Books side v s e img scratch r after left
      → (r ≢ 0 → after ≡ img) × LeftAt img scratch r left
  pub of_instant :
      (t : ℕ) (img : List ℕ) (r : InstantAnswer) → Answers t img r
      → (r.status ≢ 0 → (r.sum ≡ pos 0) × (r.count ≡ pos 0) × (r.start ≡ 0) × (r.end ≡ 0))
      × (r.status ≡ 0 → r.pages ≡ (head (half_of img) img).height)
      × (r.status ≢ 0 → r.status ≢ 21 → r.pages ≡ 0)
  pub of_average :
      (t : ℕ) (img : List ℕ) (r : AverageAnswer) → Averages t img r
      → (r.status ≢ 0 → (r.answer ≡ 0) × (r.hundredths ≡ pos 0)) × (r.answer ≢ 2)
  pub of_listing :
      (a b : ℕ) (img out : List ℕ) (r : ListingAnswer) (after : List ℕ) → Lists a b img out r after → r.status ≢ 0
      → (after ≡ out) × (r.runs ≡ 0)
  pub of_audit : (img scratch : List ℕ) (r : ℕ) (left : List ℕ) → Audits img scratch r left → LeftAt img scratch r left
  -- document 02, (iii): the target keeps its bytes, and what is left of the scratch goes by source and scratch: "then 16 of the target
  -- (scratch 0)"
  pub of_rebuild :
      (source target scratch : List ℕ) (r : ℕ) (after left : List ℕ) → Rebuilds source target scratch r after left
      → (r ≢ 0 → after ≡ target) × LeftByRebuild source scratch left
