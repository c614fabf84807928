-- Document 02, (viii), "Tell until when a total holds", of what the functions for C promise. Assumes nothing.
use Rattle.std.specs.Prelude.{ℕ, ◌≤◌, ◌<◌, ◌≡◌, List}
use Rattle.rule.specs.Time.{END}
use Rattle.image.specs.Images.{half_of}
use Rattle.image.specs.Trail.{instant_trail, LeafEntry}
use Rattle.book.specs.Book.{Book, book_pair}
use Rattle.claims.specs.Until.{index_instant_before}
use Rattle.luwhenoka.specs.declared.InstantAnswer.{InstantAnswer}
use Rattle.luwhenoka.specs.Answers.{pair_of}
use Rattle.luwhenoka.specs.Promises.{Answers}
use Rattle.promises.specs.AfterLists.{AfterLists}

-- the book's pair at u is that of the answer
unfoldable pub BookedAs : ℕ → InstantAnswer → Book → Type 0
BookedAs u r B = book_pair B u ≡ pair_of r

-- u is an instant from the start told up to the end told, the end left out
abbrev pub Between : ℕ → InstantAnswer → Type 0
Between u r = (r.start ≤ u) × (u < r.end)

pub record UntilPromised : Type 0 where
  -- The instant asked for lies between the start and the end, whatever the image.
  pub around : (t : ℕ) (img : List ℕ) (r : InstantAnswer) → Answers t img r → r.status ≡ 0 → Between t r × (r.end ≤ END)
  -- "Hosts poll every second." One that asks again between them, with the image as it was, gets the same answer, every number of it.
  pub again :
      (t u : ℕ) (img : List ℕ) (r q : InstantAnswer) → Answers t img r → Answers u img q
      → r.status ≡ 0 → Between u r
      → q ≡ r
  -- Both are those of an entry of the leaf where the looks at t end.
  pub of_a_leaf :
      (t : ℕ) (img : List ℕ) (r : InstantAnswer) → Answers t img r → r.status ≡ 0
      → LeafEntry (half_of img) img (instant_trail (half_of img) t img) r.start r.end
  -- After any list of calls it is the pair that the plain book has there.
  pub of_the_book :
      (t u : ℕ) (img : List ℕ) (r : InstantAnswer) → Answers t img r
      → r.status ≡ 0 → Between u r
      → AfterLists img (BookedAs u r)
  -- "with the same pair as before": the status, the pair and the pages read are those of the call of before, for every image
  pub as_before :
      (t : ℕ) (img : List ℕ) (r : InstantAnswer) → Answers t img r
      → record { status = r.status; pair = pair_of r; pages = r.pages } ≡ index_instant_before t img
