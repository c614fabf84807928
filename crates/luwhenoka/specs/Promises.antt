-- What each call promises, by name: the contracts of the functions that C gets are these; crate `promises` ties the demands to them.
-- Each says of a call which definition its status, its answer and every byte that it was lent are equal to. Assumes nothing.
use Rattle.std.specs.Prelude.{ℕ, ◌≡◌, List, ℤ}
use Rattle.rule.specs.Averages.{average}
use Rattle.calls.specs.Changes.{Side}
use Rattle.calls.specs.Index.{index_format, index_book, index_instant, index_average, index_listing, index_audit, index_rebuild}
use Rattle.luwhenoka.specs.declared.InstantAnswer.{InstantAnswer}
use Rattle.luwhenoka.specs.declared.AverageAnswer.{AverageAnswer}
use Rattle.luwhenoka.specs.declared.ListingAnswer.{ListingAnswer}
use Rattle.luwhenoka.specs.Answers.{instant_answer, average_answer, averaged_answer, listing_answer}

-- format of an image, by a capacity, returned r and left it as `after`
abbrev pub Formats : ℕ → ℕ → ℕ → List ℕ → ℕ → List ℕ → Type 0
Formats kind window k img r after = record { status = r; image = after } ≡ index_format kind window k img

-- enter or withdraw of v on [s, e), with image and scratch before and after
abbrev pub Books : Side → ℤ → ℕ → ℕ → List ℕ → List ℕ → ℕ → List ℕ → List ℕ → Type 0
Books side v s e img scratch r after left = record { status = r; image = after; scratch = left } ≡ index_book side v s e img scratch

-- instant
abbrev pub Answers : ℕ → List ℕ → InstantAnswer → Type 0
Answers t img r = r ≡ instant_answer (index_instant t img)

-- average at an instant
abbrev pub Averages : ℕ → List ℕ → AverageAnswer → Type 0
Averages t img r = r ≡ averaged_answer (index_average t img)

-- the average of a kind's sum and count
abbrev pub AveragesOf : ℕ → ℤ → ℤ → AverageAnswer → Type 0
AveragesOf kind sum count r = r ≡ average_answer 0 (average kind (record { sum = sum; count = count }))

-- span listing, with the output before and after
abbrev pub Lists : ℕ → ℕ → List ℕ → List ℕ → ListingAnswer → List ℕ → Type 0
Lists a b img out r after = listing_answer r after ≡ index_listing a b img out

-- audit, with the scratch before and after
abbrev pub Audits : List ℕ → List ℕ → ℕ → List ℕ → Type 0
Audits img scratch r after = record { status = r; scratch = after } ≡ index_audit img scratch

-- rebuild of a source, with target and scratch before and after
abbrev pub Rebuilds : List ℕ → List ℕ → List ℕ → ℕ → List ℕ → List ℕ → Type 0
Rebuilds source target scratch r after left =
    record { status = r; target = after; scratch = left } ≡ index_rebuild source target scratch
