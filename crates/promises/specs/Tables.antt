-- Demand 1's "what document 01 turns back is refused by its number there", of what the functions for C promise. Assumes nothing.
use Rattle.std.specs.Prelude.{ℕ, List, ℤ}
use Rattle.calls.specs.Changes.{Side}
use Rattle.image.specs.Images.{half_of}
use Rattle.calls.specs.Tables.{Exactly, FewerBits, format_cases, judge_cases}
use Rattle.calls.specs.Tables.{book_cases, instant_cases, listing_cases, audit_cases, rebuild_cases, PagesTold}
use Rattle.luwhenoka.specs.declared.InstantAnswer.{InstantAnswer}
use Rattle.luwhenoka.specs.declared.AverageAnswer.{AverageAnswer}
use Rattle.luwhenoka.specs.declared.ListingAnswer.{ListingAnswer}
use Rattle.luwhenoka.specs.Promises.{Formats, Books, Answers, Averages, Lists, Audits, Rebuilds}

-- The status that a call returned is r exactly where r's row turns it back and none ahead of it does, 0 exactly where none does; and an
-- instant tells the pages that it looked at.
pub record ByStatus : Type 0 where
  pub of_format :
      (kind window k : ℕ) (img : List ℕ) (r : ℕ) (after : List ℕ) → Formats kind window k img r after
      → Exactly (format_cases kind window k img) r
  pub of_booking :
      (side : Side) (v : ℤ) (s e : ℕ) (img scratch : List ℕ) (r : ℕ) (after left : List ℕ) → Books side v s e img scratch r after left
      → Exactly (judge_cases img (book_cases (half_of img) FewerBits side v s e img scratch)) r
  pub of_instant :
      (t : ℕ) (img : List ℕ) (r : InstantAnswer) → Answers t img r
      → Exactly (judge_cases img (instant_cases (half_of img) t img)) r.status × PagesTold (half_of img) t img r.status r.pages
  pub of_average :
      (t : ℕ) (img : List ℕ) (r : AverageAnswer) → Averages t img r → Exactly (judge_cases img (instant_cases (half_of img) t img)) r.status
  pub of_listing :
      (a b : ℕ) (img out : List ℕ) (r : ListingAnswer) (after : List ℕ) → Lists a b img out r after
      → Exactly (judge_cases img (listing_cases (half_of img) a b img out)) r.status
  pub of_audit :
      (img scratch : List ℕ) (r : ℕ) (left : List ℕ) → Audits img scratch r left
      → Exactly (judge_cases img (audit_cases (half_of img) FewerBits img scratch)) r
  pub of_rebuild :
      (source target scratch : List ℕ) (r : ℕ) (after left : List ℕ) → Rebuilds source target scratch r after left
      → Exactly (judge_cases source (rebuild_cases (half_of source) FewerBits source target scratch)) r
