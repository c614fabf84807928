-- Document 02, (iii), "Rebuild into a clean image", of what the functions for C promise. Assumes nothing.
use Rattle.std.specs.Prelude.{ℕ, ◌≡◌, List}
use Rattle.page.specs.Layout.{capacity_named}
use Rattle.calls.specs.Changes.{Change}
use Rattle.claims.specs.Trace.{Trace}
use Rattle.claims.specs.Rebuild.{RebuiltFrom}
use Rattle.luwhenoka.specs.declared.InstantAnswer.{InstantAnswer}
use Rattle.luwhenoka.specs.declared.AverageAnswer.{AverageAnswer}
use Rattle.luwhenoka.specs.declared.ListingAnswer.{ListingAnswer}
use Rattle.luwhenoka.specs.Answers.{pair_of}
use Rattle.luwhenoka.specs.Promises.{Answers, Averages, Lists, Rebuilds}

-- "and it goes on with the source's list, accepted changes and book, if the source has a list from a format"
unfoldable pub GoesOn : List ℕ → List ℕ → Type 0
GoesOn source img =
    (kind window field : ℕ) (cs : List Change) → Trace kind window field source cs → Trace kind window (capacity_named field) img cs

-- of an image that a rebuild which returned 0 has left
pub record RebuildPromised : Type 0 where
  pub leaves :
      (source target scratch img left : List ℕ) → Rebuilds source target scratch 0 img left
      → RebuiltFrom source target img × GoesOn source img
  -- "The listing is the old one's": of any span, with the same output lent
  pub same_listings :
      (source target scratch img left : List ℕ) → Rebuilds source target scratch 0 img left
      → (a b : ℕ) (out : List ℕ) (r q : ListingAnswer) (after after' : List ℕ) → Lists a b source out r after → Lists a b img out q after'
      → (q ≡ r) × (after' ≡ after)
  pub same_instants :
      (source target scratch img left : List ℕ) → Rebuilds source target scratch 0 img left
      → (t : ℕ) (r q : InstantAnswer) → Answers t source r → Answers t img q
      → (q.status ≡ r.status) × (pair_of q ≡ pair_of r)
  pub same_averages :
      (source target scratch img left : List ℕ) → Rebuilds source target scratch 0 img left
      → (t : ℕ) (r q : AverageAnswer) → Averages t source r → Averages t img q
      → q ≡ r
