-- The answers as C gets them, in the words of the calls' definitions. Assumes nothing.
use Rattle.std.specs.Prelude.{ℕ, List, Option, Some, None, Result, Ok, Err, pos}
use Rattle.rule.specs.declared.Pair.{Pair}
use Rattle.rule.specs.declared.Average.{Average}
use Rattle.rule.specs.declared.Average.TheVariants.{Hundredths, Nothing, Beyond}
use Rattle.lookup.specs.declared.Holding.{Holding}
use Rattle.lookup.specs.declared.LookupAnswer.{LookupAnswer}
use Rattle.calls.specs.declared.refusals.Refusal.{Refusal}
use Rattle.calls.specs.Numbers.{number_of, status_of}
use Rattle.calls.specs.Calls.{Instant, Averaged, Listed, no_instant}
use Rattle.luwhenoka.specs.declared.InstantAnswer.{InstantAnswer}
use Rattle.luwhenoka.specs.declared.AverageAnswer.{AverageAnswer}
use Rattle.luwhenoka.specs.declared.ListingAnswer.{ListingAnswer}

-- an instant call's answer: a refusal before any page is read, or what was looked up
abbrev pub looked : Option Holding → ℕ → Instant
looked (Some x) pages = record { status = 0; pair = x.pair; start = x.start; end = x.end; pages = pages }
looked None pages = no_instant 21 pages

abbrev pub instant_of : Result LookupAnswer Refusal → Instant
instant_of (Ok r) = looked r.found r.pages
instant_of (Err refusal) = no_instant (number_of refusal) 0

-- the numbers of an instant call's answer
unfoldable pub instant_answer : Instant → InstantAnswer
instant_answer r =
    record { status = r.status; pages = r.pages; sum = r.pair.sum; count = r.pair.count; start = r.start; end = r.end }

-- its pair
abbrev pub pair_of : InstantAnswer → Pair
pair_of r = record { sum = r.sum; count = r.count }

-- case by case: no average, one in hundredths, a sum that no fit page can show
unfoldable pub average_answer : ℕ → Average → AverageAnswer
average_answer number Nothing = record { status = number; answer = 0; hundredths = pos 0 }
average_answer number (Hundredths x) = record { status = number; answer = 1; hundredths = x }
average_answer number Beyond = record { status = number; answer = 2; hundredths = pos 0 }

unfoldable pub averaged_answer : Averaged → AverageAnswer
averaged_answer r = average_answer r.status r.average

-- an average, and none where the call is refused
abbrev pub average_of : Result Average Refusal → Averaged
average_of (Ok a) = record { status = 0; average = a }
average_of (Err refusal) = record { status = number_of refusal; average = Nothing }

-- the number of runs, 0 where the call is refused
abbrev pub runs_of : Result ℕ Refusal → ℕ
runs_of (Ok n) = n
runs_of (Err refusal) = 0

-- What a listing leaves: the status, the number of runs, and the output's bytes.
abbrev pub listed_of : Result ℕ Refusal → List ℕ → Listed
listed_of r out = record { status = status_of r; runs = runs_of r; output = out }

unfoldable pub listing_answer : ListingAnswer → List ℕ → Listed
listing_answer r out = record { status = r.status; runs = r.runs; output = out }
