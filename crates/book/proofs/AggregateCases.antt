-- The aggregate's cases hold: each is computed. Assumes nothing.
use mathlib.Core.Path.{refl}
use mathlib.Core.Bool.{false≢true}
use Rattle.book.specs.Aggregate.{counts_at, counting, signed, sum_of, count_of, best_of, best_pair, aggregate_of, aggregate}
use Rattle.book.specs.Aggregate.{same_booking, without, live_has, live_after, live_from, Matched}
use Rattle.book.specs.AggregateCases.{prescription, again, twice, three, AggregateCases}
use Rattle.calls.proofs.Opened.{every_call}

pub aggregate_cases : AggregateCases
unfolding every_call counts_at counting signed sum_of count_of best_of best_pair aggregate_of aggregate same_booking without live_has live_after live_from Matched prescription again twice three
aggregate_cases =
    record {
      totals = refl;
      totals_on = refl;
      window_5 = refl;
      window_20 = refl;
      counts = refl;
      counts_now = refl;
      counts_early = refl;
      greatest = refl;
      least = refl;
      least_last = refl;
      of_none = (refl, refl, refl);
      withdrawn = refl;
      withdrawn_alone = refl;
      live_again = refl;
      live_twice = refl;
      total_again = (refl, refl);
      matched = ((tt, (refl, (tt, tt))), (tt, (tt, (tt, (refl, tt)))));
      unmatched = λ m. false≢true m.0;
      unmatched_yet = λ m. false≢true m.0;
      unmatched_twice = λ m. false≢true m.1.1.0;
      other_value = λ m. false≢true m.1.0;
      other_start = λ m. false≢true m.1.0;
      other_end = λ m. false≢true m.1.0;
    }
