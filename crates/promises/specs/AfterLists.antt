-- Demand 3 in the words of the functions for C: what a call answers on an image that a list of calls has led to is what the plain book of
-- that list says. Assumes nothing.
use Rattle.std.specs.Prelude.{ℕ, ◌<◌, ◌≤◌, ◌≡◌, ◌⊎◌, not, List, [], ◌∷◌, ℤ}
use Rattle.rule.specs.declared.Average.TheVariants.{Nothing}
use Rattle.rule.specs.Time.{END}
use Rattle.rule.specs.Averages.{average}
use Rattle.image.specs.Images.{half_of, pages_in}
use Rattle.calls.specs.Refusals.{first, borrowed, scratch_ok}
use Rattle.calls.specs.Changes.{Side, Change}
use Rattle.book.specs.Book.{Book, book_of, book_pair, listing_of}
use Rattle.claims.specs.Trace.{Trace}
use Rattle.claims.specs.Demands.{fixed_status, rebuild_of}
use Rattle.luwhenoka.specs.declared.InstantAnswer.{InstantAnswer}
use Rattle.luwhenoka.specs.declared.AverageAnswer.{AverageAnswer}
use Rattle.luwhenoka.specs.declared.ListingAnswer.{ListingAnswer}
use Rattle.luwhenoka.specs.Answers.{pair_of, average_answer, listing_answer}

-- P of the book of every list that leads to the image, from a format of any capacity or from document 01's own
unfoldable pub AfterLists : List ℕ → (Book → Type 0) → Type 0
AfterLists img P = (kind window field : ℕ) (cs : List Change) → Trace kind window field img cs → P (book_of kind window cs)

-- "an instant call returns 12 at END, else 0 and the pair at t that the book then has"
pub record InstantAs (t : ℕ) (r : InstantAnswer) (B : Book) : Type 0 where
  pub at_end : END ≤ t → r.status ≡ 12
  pub told : t < END → (r.status ≡ 0) × (pair_of r ≡ book_pair B t)

-- "The average's pair is taken by an instant call."
pub record AverageAs (t : ℕ) (r : AverageAnswer) (B : Book) : Type 0 where
  pub at_end : END ≤ t → r ≡ average_answer 12 Nothing
  pub told : t < END → r ≡ average_answer 0 (average B.kind (book_pair B t))

-- "a listing 11 if a ≥ b, else 15 .., else 0, their number, and an output that begins with them and keeps the rest"
unfoldable pub ListingAs : ℕ → ℕ → List ℕ → ListingAnswer → List ℕ → Book → Type 0
ListingAs a b out r after B = listing_answer r after ≡ listing_of (book_pair B) a b out

-- "an audit 17 if its scratch is too short, else 0"
unfoldable pub AuditAs : List ℕ → List ℕ → ℕ → Book → Type 0
AuditAs img scratch r B = r ≡ first ((17, not (scratch_ok borrowed (pages_in (half_of img) img) scratch)) ∷ [])

-- a booking the status that is fixed without the image, but where the pages may be too few
unfoldable pub BookingAs : Side → ℤ → ℕ → ℕ → List ℕ → List ℕ → ℕ → Book → Type 0
BookingAs side v s e img scratch r B =
    let fixed = fixed_status (pages_in (half_of img) img) side v s e scratch B in
    (r ≡ fixed) ⊎ ((fixed ≡ 0) × (r ≡ 24))

-- a rebuild all that the book says: its status, and every byte of target and scratch
unfoldable pub RebuildAs : List ℕ → List ℕ → List ℕ → ℕ → List ℕ → List ℕ → Book → Type 0
RebuildAs source target scratch r after left B =
    record { status = r; target = after; scratch = left } ≡ rebuild_of (half_of source) (pages_in (half_of source) source) B target scratch
