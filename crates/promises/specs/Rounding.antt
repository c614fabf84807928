-- Document 02, (ix), "Averages round to even", of what the functions for C promise, by what the words say of a number and not by how it is
-- computed. Assumes nothing.
use Rattle.std.specs.Prelude.{ℕ, ◌≤◌, ◌<◌, ◌≡◌, List, ℤ, pos, nat_abs, ◌*ℤ◌}
use Rattle.rule.specs.Time.{END}
use Rattle.rule.specs.Averages.{most_sum, TheNearest}
use Rattle.fields.specs.Numbers.{u32_at}
use Rattle.calls.specs.Changes.{Change}
use Rattle.book.specs.Aggregate.{aggregate}
use Rattle.claims.specs.Trace.{Trace}
use Rattle.luwhenoka.specs.declared.InstantAnswer.{InstantAnswer}
use Rattle.luwhenoka.specs.declared.AverageAnswer.{AverageAnswer}
use Rattle.luwhenoka.specs.Promises.{Answers, Averages, AveragesOf}

-- the answer tells the whole number nearest 100 × sum / count, of two that are equally near the even one
pub record Rounded (sum : ℤ) (count : ℕ) (r : AverageAnswer) : Type 0 where
  pub status : r.status ≡ 0
  pub answer : r.answer ≡ 1
  pub hundredths : TheNearest (pos 100 *ℤ sum) count r.hundredths

-- Wherever there is an average: for kind 1 and a count above zero.
pub record RoundingPromised : Type 0 where
  -- of any sum that fit pages can show
  pub of_pair :
      (sum : ℤ) (count : ℕ) (r : AverageAnswer) → AveragesOf 1 sum (pos count) r
      → 0 < count → nat_abs sum ≤ most_sum
      → Rounded sum count r
  -- at an instant, on any image, of the pair that an instant call answers there; byte 24 of the head is the kind's first
  pub at_instant :
      (t : ℕ) (img : List ℕ) (a : InstantAnswer) (count : ℕ) (r : AverageAnswer) → Answers t img a → Averages t img r
      → a.status ≡ 0 → u32_at img 24 ≡ 1 → a.count ≡ pos count → 0 < count
      → Rounded a.sum count r
  -- demand 2's "averages rounded": after any list of calls, of the aggregate over the accepted bookings
  pub of_bookings :
      (window field : ℕ) (img : List ℕ) (cs : List Change) → Trace 1 window field img cs
      → (t count : ℕ) (r : AverageAnswer) → Averages t img r
      → t < END → (aggregate 1 window cs t).count ≡ pos count → 0 < count
      → Rounded (aggregate 1 window cs t).sum count r
