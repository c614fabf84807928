-- Lists of calls on an image of two pages of four entries (half of which is 2), and what is claimed of them: cases that compute, or that a
-- few lines of proof settle. What the calls do there one by one is in CallCases.antt of `calls`.
-- Assumes nothing.
use Rattle.std.specs.Prelude.{ℕ, ◌+◌, ◌-◌, ◌*◌, ◌<◌, ◌≡◌, List, [], ◌∷◌, length, replicate, pos, negsuc}
use Rattle.rule.specs.declared.Average.TheVariants.{Hundredths, Nothing}
use Rattle.rule.specs.Time.{END}
use Rattle.rule.specs.Pairs.{pair}
use Rattle.calls.specs.Changes.{entering, withdrawing, Change}
use Rattle.calls.specs.Index.{index_format, index_instant, index_average, index_listing, index_audit, index_rebuild}
use Rattle.calls.specs.CallCases.{fresh_image, before_image, enters, withdraws, after_one, after_two, after_three, greatest_one}
use Rattle.book.specs.Book.{Book, empty_book, entered}
use Rattle.book.specs.BookCases.{one, windowed, listed_30_41}
use Rattle.book.specs.AggregateCases.{entry, withdrawal}
use Rattle.claims.specs.Trace.{Step, Trace, Throughout, change_made}
use Rattle.claims.specs.Demands.{fixed_status, rebuild_of, AsTheBook, Booking, couples, SameChanges, TheDemands}

-- a rebuild with scratch enough, into so many pages of some other content
abbrev pub rebuilt_into : ℕ → List ℕ → List ℕ
rebuilt_into n img = (index_rebuild img (replicate (112 * n) 9) (7 ∷ 7 ∷ [])).target

-- What the first booking left, rebuilt into four pages, where 3 on [20, 50) fits; that rebuilt into five, where 6 on [10, 40) is withdrawn;
-- and that rebuilt back into the four.
unfoldable pub roomier : List ℕ
roomier = (enters (pos 3) 20 50 (rebuilt_into 4 after_one)).image

unfoldable pub withdrawn_there : List ℕ
withdrawn_there = (withdraws (pos 6) 10 40 (rebuilt_into 5 roomier)).image

unfoldable pub after_season : List ℕ
after_season = (index_rebuild withdrawn_there roomier (7 ∷ 7 ∷ [])).target

-- the book of the first booking on an image of kind 2
unfoldable pub greatest_book : Book
greatest_book = entered 0 entering (pos 6) 10 40 (empty_book 2 0)

-- the changes of the three
unfoldable pub three_changes : List Change
three_changes = entry (pos 6) 10 40 ∷ withdrawal (pos 6) 10 40 ∷ entry (pos 3) 20 50 ∷ []

-- the bookings that are struck out below
abbrev pub struck : Booking
struck = record { v = pos 6; s = 10; e = 40 }

abbrev pub struck_too : Booking
struck_too = record { v = negsuc 0; s = 0; e = 9 }

pub record ListCases : Type 0 where
  -- What the book fixes of a booking's status: all but 24.
  pub fixed :
      (fixed_status 2 entering (pos 3) 20 50 (7 ∷ 7 ∷ []) one ≡ 0)
      × (fixed_status 2 entering (pos 1000001) 5 5 (7 ∷ 7 ∷ []) one ≡ 11)
      × (fixed_status 2 withdrawing (pos 4) 35 45 (7 ∷ 7 ∷ []) (windowed 2) ≡ 22)
      × (fixed_status 2 withdrawing (pos 4) 35 45 [] (windowed 2) ≡ 17)
  -- A booking that returned 0 made its change, and one that was refused made none.
  pub made_by_status : (change_made 0 (entry (pos 3) 20 50) ≡ entry (pos 3) 20 50 ∷ []) × (change_made 24 (entry (pos 3) 20 50) ≡ [])
  -- A list of calls: the three bookings, in this order, and behind the first one 3 on [20, 50) refused by 24, a format refused by 14,
  -- both as the steps that every call is, and a call that only reads.
  pub day : Trace 1 0 4 after_three three_changes
  -- A list from document 01's own format, on an image that has FF in the capacity's field.
  pub before_day : Trace 1 0 4294967295 (enters (pos 6) 10 40 before_image).image (entry (pos 6) 10 40 ∷ [])
  -- A season: the list of a target goes on where its source's is, with a change before each rebuild, the last one into an image that had a
  -- list of its own; and from FF in the field.
  pub season : Trace 1 0 4 after_season (entry (pos 6) 10 40 ∷ entry (pos 3) 20 50 ∷ withdrawal (pos 6) 10 40 ∷ [])
  pub before_season : Trace 1 0 24 (index_rebuild before_image (replicate 1024 9) (7 ∷ 7 ∷ [])).target []
  -- The images before a rebuild are looked at, those of five pages, and the one that it left: the only one of four pages after three changes.
  pub first_of_season : ¬ Throughout (λ img cs. 0 < length cs) season
  pub five_in_season : ¬ Throughout (λ img cs. length img < 560) season
  pub last_of_season : ¬ Throughout (λ img cs. 448 < length img + 560 * (3 - length cs)) season
  pub within_season : Throughout (λ img cs. length img < 561) season
  -- The target's own list has ended: an accepted rebuild is no step there.
  pub accepted_rebuild : ¬ Step after_one [] (index_rebuild fresh_image after_one (7 ∷ 7 ∷ [])).target
  -- What the book fixes of a rebuild: 17 by the source's pages, then 16 of the target.
  pub book_rebuild :
      ((rebuild_of 2 9 one [] (7 ∷ [])).status ≡ 17)
      × (rebuild_of 2 8 one [] (7 ∷ []) ≡ record { status = 16; target = []; scratch = 0 ∷ [] })
  -- What is claimed of two images of different capacities.
  pub two_capacities :
      TheDemands → {img other : List ℕ} {cs : List Change} → Trace 1 0 4 img cs → Trace 1 0 4294967295 other cs
      → (out : List ℕ) → index_listing 0 END img out ≡ index_listing 0 END other out
  -- Each image on the way is looked at, the first and the last too.
  pub all_day : (Throughout (λ img cs. length cs < 4) day)
  pub last_of_day : ¬ Throughout (λ img cs. length cs < 3) day
  pub first_of_day : ¬ Throughout (λ img cs. 0 < length cs) day
  -- What is claimed of an image whose book has one booking; of a listing there; of one of kind 2; of an audit; and of a withdrawal, which
  -- kind 2 turns back.
  pub claimed :
      {img : List ℕ} → AsTheBook img one
      → ((index_instant END img).status ≡ 12)
      × ((index_instant 39 img).pair ≡ pair (pos 6) (pos 1))
      × (index_average END img ≡ record { status = 12; average = Nothing })
      × (index_average 39 img ≡ record { status = 0; average = Hundredths (pos 600) })
  pub claimed_listing :
      {img : List ℕ} → AsTheBook img one
      → index_listing 30 41 img (replicate 34 9) ≡ listed_30_41
  pub claimed_greatest : {img : List ℕ} → AsTheBook img (windowed 2) → index_average 40 img ≡ record { status = 0; average = Nothing }
  pub claimed_audit :
      AsTheBook after_one one → ((index_audit after_one []).status ≡ 17) × ((index_audit after_one (7 ∷ 7 ∷ [])).status ≡ 0)
  pub claimed_booking : AsTheBook greatest_one greatest_book → (withdraws (pos 6) 10 40 greatest_one).status ≡ 22
  -- No list has a format that was accepted and changed the image, nor a booking that changed it and is not among the changes.
  pub accepted_format : ¬ Step after_one [] (index_format 1 0 4 after_one).image
  pub change_left_out : ¬ Step after_one [] after_two
  -- nor a change that the image doesn't have
  pub change_made_up : ¬ Step after_one (entry (pos 3) 20 50 ∷ []) after_one
  -- "A withdrawal matches an entry of the same v, s and e, whichever came first." "the same in whatever order, or become so when entries
  -- are struck out with their matching withdrawals".
  pub couple : couples (struck ∷ []) ≡ entry (pos 6) 10 40 ∷ withdrawal (pos 6) 10 40 ∷ []
  pub struck_out :
      SameChanges (entry (pos 6) 10 40 ∷ entry (pos 3) 20 50 ∷ withdrawal (pos 6) 10 40 ∷ []) (entry (pos 3) 20 50 ∷ [])
  pub withdrawn_first :
      SameChanges (withdrawal (pos 6) 10 40 ∷ entry (pos 3) 20 50 ∷ entry (pos 6) 10 40 ∷ []) (entry (pos 3) 20 50 ∷ [])
  pub other_order :
      SameChanges (entry (pos 6) 10 40 ∷ entry (pos 3) 20 50 ∷ []) (entry (pos 3) 20 50 ∷ entry (pos 6) 10 40 ∷ [])
  -- An entry without its withdrawal can't be struck out.
  pub different : ¬ SameChanges (entry (pos 6) 10 40 ∷ []) []
  -- "Any number may be struck out, each entry with one withdrawal, from either list."
  pub struck_from_both :
      SameChanges
      (entry (pos 6) 10 40 ∷ entry (negsuc 0) 0 9 ∷ withdrawal (pos 6) 10 40 ∷ entry (pos 3) 20 50 ∷ withdrawal (negsuc 0) 0 9 ∷ [])
      (withdrawal (negsuc 0) 0 9 ∷ entry (pos 3) 20 50 ∷ entry (negsuc 0) 0 9 ∷ [])
