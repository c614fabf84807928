-- The book's cases hold: each is computed. Assumes nothing.
use mathlib.Core.Path.{refl}
use Rattle.book.specs.Book.{empty_book, entered, entered_all, book_of, items_pair, book_pair, runs_after, runs_of, listing_of}
use Rattle.book.specs.BookCases.{prescribed, one, windowed, two, below_zero, BookCases}
use Rattle.calls.proofs.Opened.{every_call}

pub book_cases : BookCases
unfolding every_call empty_book entered entered_all book_of items_pair book_pair runs_after runs_of listing_of prescribed one windowed two below_zero
book_cases =
    record {
      totals = refl;
      totals_on = refl;
      window_5 = refl;
      averages = (refl, refl);
      window_20 = refl;
      windows = (refl, refl, refl);
      greatest = refl;
      least = refl;
      greatest_below_zero = refl;
      least_below_zero = refl;
      refused = (refl, refl);
      withdrawal = refl;
      withdrawal_alone = refl;
      items = refl;
      ends = refl;
      ends_at_end = refl;
      runs = refl;
      runs_within = refl;
      runs_up_to = refl;
      runs_past = refl;
      equal_sums = refl;
      equal_counts = refl;
      equal_pairs = refl;
      fed = refl;
      listing_11 = (refl, refl);
      listing_15 = refl;
      listing_0 = refl;
    }
