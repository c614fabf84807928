-- The plain book on short spans: cases that compute, each worked out by hand from document 01's words and from the tables of source
-- document 000. Assumes nothing.
use Rattle.std.specs.Prelude.{ℕ, ◌≡◌, [], ◌∷◌, ◌++◌, map, replicate, pos, negsuc}
use Rattle.rule.specs.declared.Average.TheVariants.{Hundredths}
use Rattle.rule.specs.Time.{END}
use Rattle.rule.specs.Pairs.{pair, none}
use Rattle.rule.specs.Averages.{average}
use Rattle.image.specs.Listing.{run}
use Rattle.calls.specs.Changes.{entering, withdrawing}
use Rattle.calls.specs.Calls.{Listed}
use Rattle.book.specs.Book.{Book, empty_book, entered, book_of, book_pair, runs_of, listing_of}
use Rattle.book.specs.AggregateCases.{entry}

-- 000, Table 1: Amy 2 on [10, 40), Ben 3 on [10, 30), Cal 1 on [20, 40), Dan 2 on [5, 15), Eve 4 on [35, 45), Fay 1 on [10, 50)
unfoldable pub prescribed : ℕ → ℕ → Book
prescribed kind window =
    entered 0 entering (pos 1) 10 50
    (entered 0 entering (pos 4) 35 45
    (entered 0 entering (pos 2) 5 15
    (entered 0 entering (pos 1) 20 40
    (entered 0 entering (pos 3) 10 30
    (entered 0 entering (pos 2) 10 40 (empty_book kind window))))))

-- one booking: 6 on [10, 40)
unfoldable pub one : Book
one = entered 0 entering (pos 6) 10 40 (empty_book 1 0)

-- its runs over [30, 41) in an output of 34 bytes, which held nines: 6 and 1 from 30 on, nothing from 40 on
abbrev pub listed_30_41 : Listed
listed_30_41 =
    record {
      status = 0;
      runs = 2;
      output =
          (30 ∷ 0 ∷ 0 ∷ 0 ∷ 1 ∷ 0 ∷ 0 ∷ 0 ∷ 6 ∷ 0 ∷ 0 ∷ 0 ∷ 0 ∷ 0 ∷ 0 ∷ 0 ∷ [])
          ++ (40 ∷ 0 ∷ 0 ∷ 0 ∷ 0 ∷ 0 ∷ 0 ∷ 0 ∷ 0 ∷ 0 ∷ 0 ∷ 0 ∷ 0 ∷ 0 ∷ 0 ∷ 0 ∷ [])
          ++ (9 ∷ 9 ∷ []);
    }

-- "Kind 2, w = 20, enter 4 on [35, 45)"; of any kind
unfoldable pub windowed : ℕ → Book
windowed kind = entered 0 entering (pos 4) 35 45 (empty_book kind 20)

-- 7 on [5, 30) and 4 on [10, 40); 0 on [10, 30) and −5 on [10, 40)
unfoldable pub two : ℕ → Book
two kind = entered 0 entering (pos 4) 10 40 (entered 0 entering (pos 7) 5 30 (empty_book kind 0))

unfoldable pub below_zero : ℕ → Book
below_zero kind = entered 0 entering (negsuc 4) 10 40 (entered 0 entering (pos 0) 10 30 (empty_book kind 0))

pub record BookCases : Type 0 where
  -- 000, Table 2, with how many prescriptions are active: before, at, inside and at the end of items. "Counting a booking at e" is a
  -- fault that document 01 names.
  pub totals :
      map (book_pair (prescribed 1 0)) (0 ∷ 4 ∷ 5 ∷ 9 ∷ 10 ∷ 14 ∷ 15 ∷ 19 ∷ 20 ∷ 29 ∷ [])
      ≡ none ∷ none ∷ pair (pos 2) (pos 1) ∷ pair (pos 2) (pos 1) ∷ pair (pos 8) (pos 4) ∷ pair (pos 8) (pos 4)
      ∷ pair (pos 6) (pos 3) ∷ pair (pos 6) (pos 3) ∷ pair (pos 7) (pos 4) ∷ pair (pos 7) (pos 4) ∷ []
  pub totals_on :
      map (book_pair (prescribed 1 0)) (30 ∷ 34 ∷ 35 ∷ 39 ∷ 40 ∷ 44 ∷ 45 ∷ 49 ∷ 50 ∷ [])
      ≡ pair (pos 4) (pos 3) ∷ pair (pos 4) (pos 3) ∷ pair (pos 8) (pos 4) ∷ pair (pos 8) (pos 4) ∷ pair (pos 5) (pos 2)
      ∷ pair (pos 5) (pos 2) ∷ pair (pos 1) (pos 1) ∷ pair (pos 1) (pos 1) ∷ none ∷ []
  -- 000, section 4: with w = 5 the pair is ⟨8, 4⟩ at 19 and ⟨7, 4⟩ at 32, whose average is 1.75; with w = 0 it is 1.33 there.
  pub window_5 : map (book_pair (prescribed 1 5)) (19 ∷ 32 ∷ []) ≡ pair (pos 8) (pos 4) ∷ pair (pos 7) (pos 4) ∷ []
  pub averages :
      (average 1 (book_pair (prescribed 1 5) 32) ≡ Hundredths (pos 175))
      × (average 1 (book_pair (prescribed 1 0) 32) ≡ Hundredths (pos 133))
  -- 000, Table 5: the greatest with w = 20.
  pub window_20 :
      map (book_pair (prescribed 2 20)) (4 ∷ 5 ∷ 9 ∷ 10 ∷ 34 ∷ 35 ∷ 64 ∷ 65 ∷ 69 ∷ 70 ∷ [])
      ≡ none ∷ pair (pos 2) (pos 1) ∷ pair (pos 2) (pos 1) ∷ pair (pos 3) (pos 1) ∷ pair (pos 3) (pos 1) ∷ pair (pos 4) (pos 1)
      ∷ pair (pos 4) (pos 1) ∷ pair (pos 1) (pos 1) ∷ pair (pos 1) (pos 1) ∷ none ∷ []
  -- A booking on [35, 45) with w = 20 counts at 64 and not at 65, whatever the kind.
  pub windows :
      (map (book_pair (windowed 1)) (34 ∷ 35 ∷ 64 ∷ 65 ∷ []) ≡ none ∷ pair (pos 4) (pos 1) ∷ pair (pos 4) (pos 1) ∷ none ∷ [])
      × (map (book_pair (windowed 2)) (34 ∷ 35 ∷ 64 ∷ 65 ∷ []) ≡ none ∷ pair (pos 4) (pos 1) ∷ pair (pos 4) (pos 1) ∷ none ∷ [])
      × (map (book_pair (windowed 3)) (34 ∷ 35 ∷ 64 ∷ 65 ∷ []) ≡ none ∷ pair (pos 4) (pos 1) ∷ pair (pos 4) (pos 1) ∷ none ∷ [])
  -- "the greatest or least value with 1", among values of either sign; 0 is a value.
  pub greatest :
      map (book_pair (two 2)) (5 ∷ 10 ∷ 29 ∷ 30 ∷ [])
      ≡ pair (pos 7) (pos 1) ∷ pair (pos 7) (pos 1) ∷ pair (pos 7) (pos 1) ∷ pair (pos 4) (pos 1) ∷ []
  pub least :
      map (book_pair (two 3)) (5 ∷ 10 ∷ 29 ∷ 30 ∷ [])
      ≡ pair (pos 7) (pos 1) ∷ pair (pos 4) (pos 1) ∷ pair (pos 4) (pos 1) ∷ pair (pos 4) (pos 1) ∷ []
  pub greatest_below_zero : map (book_pair (below_zero 2)) (10 ∷ 30 ∷ 40 ∷ []) ≡ pair (pos 0) (pos 1) ∷ pair (negsuc 4) (pos 1) ∷ none ∷ []
  pub least_below_zero : map (book_pair (below_zero 3)) (10 ∷ 30 ∷ 40 ∷ []) ≡ pair (negsuc 4) (pos 1) ∷ pair (negsuc 4) (pos 1) ∷ none ∷ []
  -- "Any other number adds nothing".
  pub refused : (entered 24 entering (pos 3) 20 50 one ≡ one) × (entered 1 withdrawing (pos 6) 10 40 one ≡ one)
  -- "an item: s, e' and (v, 1), for a withdrawal (−v, −1)": a withdrawal is an item too, "whether or not such a booking is live".
  pub withdrawal : map (book_pair (entered 0 withdrawing (pos 6) 10 40 one)) (9 ∷ 10 ∷ 39 ∷ []) ≡ none ∷ none ∷ none ∷ []
  pub withdrawal_alone :
      map (book_pair (entered 0 withdrawing (pos 3) 20 50 one)) (19 ∷ 20 ∷ 40 ∷ 50 ∷ [])
      ≡ pair (pos 6) (pos 1) ∷ pair (pos 3) (pos 0) ∷ pair (negsuc 2) (negsuc 0) ∷ none ∷ []
  pub items :
      (entered 0 withdrawing (pos 3) 20 50 one).items
      ≡ record { s = 20; e = 50; pair = pair (negsuc 2) (negsuc 0) } ∷ record { s = 10; e = 40; pair = pair (pos 6) (pos 1) } ∷ []
  -- "e' the smaller of e+w and END".
  pub ends : (windowed 1).items ≡ record { s = 35; e = 65; pair = pair (pos 4) (pos 1) } ∷ []
  pub ends_at_end :
      (entered 0 entering (pos 1) 5 4294967290 (empty_book 1 1000000000)).items
      ≡ record { s = 5; e = END; pair = pair (pos 1) (pos 1) } ∷ []
  -- The runs over [9, 42), of which the first starts at 9; those that 000, section 3.2, finds over [14, 28); none starts at b.
  pub runs :
      runs_of (book_pair (prescribed 1 0)) 9 42
      ≡ run 9 (pair (pos 2) (pos 1)) ∷ run 10 (pair (pos 8) (pos 4)) ∷ run 15 (pair (pos 6) (pos 3)) ∷ run 20 (pair (pos 7) (pos 4))
      ∷ run 30 (pair (pos 4) (pos 3)) ∷ run 35 (pair (pos 8) (pos 4)) ∷ run 40 (pair (pos 5) (pos 2)) ∷ []
  pub runs_within :
      runs_of (book_pair (prescribed 1 0)) 14 28
      ≡ run 14 (pair (pos 8) (pos 4)) ∷ run 15 (pair (pos 6) (pos 3)) ∷ run 20 (pair (pos 7) (pos 4)) ∷ []
  pub runs_up_to : runs_of (book_pair one) 9 40 ≡ run 9 none ∷ run 10 (pair (pos 6) (pos 1)) ∷ []
  pub runs_past : runs_of (book_pair one) 39 41 ≡ run 39 (pair (pos 6) (pos 1)) ∷ run 40 none ∷ []
  -- Two items of equal sum and different count are different runs, and of equal count and different sum; equal pairs are one run.
  pub equal_sums :
      runs_of (book_pair (entered 0 entering (pos 0) 20 30 one)) 9 42
      ≡ run 9 none ∷ run 10 (pair (pos 6) (pos 1)) ∷ run 20 (pair (pos 6) (pos 2)) ∷ run 30 (pair (pos 6) (pos 1)) ∷ run 40 none ∷ []
  pub equal_counts :
      runs_of (book_pair (entered 0 entering (pos 3) 40 50 one)) 9 42
      ≡ run 9 none ∷ run 10 (pair (pos 6) (pos 1)) ∷ run 40 (pair (pos 3) (pos 1)) ∷ []
  pub equal_pairs :
      runs_of (book_pair (entered 0 entering (pos 6) 40 50 one)) 9 52 ≡ run 9 none ∷ run 10 (pair (pos 6) (pos 1)) ∷ run 50 none ∷ []
  -- The book of a list of changes: of its kind and window, and each change is entered, the first one first.
  pub fed :
      book_of 2 20 (entry (pos 6) 10 40 ∷ record { side = withdrawing; v = pos 6; s = 10; e = 40 } ∷ entry (pos 3) 20 50 ∷ [])
      ≡ record {
        kind = 2;
        window = 20;
        items =
            record { s = 20; e = 70; pair = pair (pos 3) (pos 1) }
            ∷ record { s = 10; e = 60; pair = pair (negsuc 5) (negsuc 0) }
            ∷ record { s = 10; e = 60; pair = pair (pos 6) (pos 1) }
            ∷ [];
      }
  -- "a listing 11 if a ≥ b, else 15 if the output is shorter than the book's runs, else 0, their number, and an output that begins
  -- with them and keeps the rest".
  pub listing_11 :
      (listing_of (book_pair one) 41 30 (9 ∷ []) ≡ record { status = 11; runs = 0; output = 9 ∷ [] })
      × (listing_of (book_pair one) 30 30 (9 ∷ []) ≡ record { status = 11; runs = 0; output = 9 ∷ [] })
  pub listing_15 : listing_of (book_pair one) 30 41 (replicate 31 9) ≡ record { status = 15; runs = 0; output = replicate 31 9 }
  pub listing_0 :
      listing_of (book_pair one) 30 41 (replicate 34 9) ≡ listed_30_41
