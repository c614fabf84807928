-- The cases of lists of calls hold. Assumes nothing.
use Prim.Native.Nat.{ℕ, suc, ◌*◌}
use mathlib.Core.Path.{◌≡◌, refl, sym, ap, ◌∙◌}
use mathlib.Core.Logic.{◌≢◌, ◌⊎◌, inl, inr}
use mathlib.Core.Bool.{Bool, true, false, not}
use mathlib.Core.List.{List, [], ◌∷◌}
use native.Mathlib.Omega.{arith}
use lib.ListN.{length, length-append, replicate}
use lib.IntN.{pos}
use Rattle.rule.specs.Time.{END}
use Rattle.calls.specs.Refusals.{first, borrowed, scratch_ok}
use Rattle.calls.specs.Changes.{entering, withdrawing, Change}
use Rattle.calls.specs.Calls.{Booked, head}
use Rattle.calls.specs.Index.{index_book}
use Rattle.calls.specs.CallCases.{fresh_image, before_image, after_one, after_two, after_three, greatest_one}
use Rattle.calls.proofs.Opened.{every_call}
use Rattle.book.specs.Book.{empty_book, entered, items_pair, book_pair, runs_after, runs_of, listing_of}
use Rattle.book.specs.BookCases.{one, windowed}
use Rattle.book.specs.AggregateCases.{entry, withdrawal}
use Rattle.claims.specs.Trace.{Step, kept, accepted, Trace, formatted, formatted_before, extended, rebuilt, Throughout, change_made}
use Rattle.claims.specs.Demands.{fixed_status, rebuild_of, Booking, couples, Reordered, same, next, swap, then, SameChanges}
use Rattle.claims.specs.ListCases.{three_changes, greatest_book, struck, struck_too, roomier, withdrawn_there, after_season, ListCases}
use Rattle.claims.proofs.Steps.{stayed, steps}

-- a day of calls: behind the first booking one that is refused, a format that is refused and a reading call
refused_step : Step after_one [] after_one
unfolding every_call fresh_image after_one change_made
refused_step = steps.of_booking entering (pos 3) 20 50 after_one (7 ∷ 7 ∷ []) 24 after_one (0 ∷ 7 ∷ []) refl

refused_format : Step after_one [] after_one
unfolding every_call fresh_image after_one
refused_format = steps.of_refused_format 4 0 4 after_one 14 after_one refl (λ e. omega arith)

a_day : Trace 1 0 4 after_three three_changes
unfolding every_call fresh_image after_one after_two after_three three_changes
a_day =
    extended
    (extended
    (extended
    (extended (extended (extended (formatted (replicate (112 * 2) 0) refl) (accepted (7 ∷ 7 ∷ []) refl)) refused_step) refused_format)
    kept)
    (accepted (7 ∷ 7 ∷ []) refl))
    (accepted (7 ∷ 7 ∷ []) refl)

-- a season: what the first booking left goes on in four pages, that in five, and that in the four again
in_four : Trace 1 0 4 roomier (entry (pos 6) 10 40 ∷ entry (pos 3) 20 50 ∷ [])
unfolding every_call fresh_image after_one roomier
in_four =
    extended
    (rebuilt {field = 4} (replicate (112 * 4) 9) (7 ∷ 7 ∷ [])
    (extended (formatted (replicate (112 * 2) 0) refl) (accepted (7 ∷ 7 ∷ []) refl))
    refl)
    (accepted (7 ∷ 7 ∷ []) refl)

in_five : Trace 1 0 4 withdrawn_there (entry (pos 6) 10 40 ∷ entry (pos 3) 20 50 ∷ withdrawal (pos 6) 10 40 ∷ [])
unfolding every_call fresh_image after_one roomier withdrawn_there
in_five = extended (rebuilt {field = 4} (replicate (112 * 5) 9) (7 ∷ 7 ∷ []) in_four refl) (accepted (7 ∷ 7 ∷ []) refl)

a_season : Trace 1 0 4 after_season (entry (pos 6) 10 40 ∷ entry (pos 3) 20 50 ∷ withdrawal (pos 6) 10 40 ∷ [])
unfolding every_call fresh_image after_one roomier withdrawn_there after_season
a_season = rebuilt {field = 4} roomier (7 ∷ 7 ∷ []) in_five refl

-- whatever the scratch, 3 on [20, 50) is refused on what the first booking left
refused_booking : (scratch : List ℕ) → (index_book entering (pos 3) 20 50 after_one scratch).status ≢ 0
unfolding every_call fresh_image after_one
refused_booking scratch = go (scratch_ok borrowed 2 scratch)
  where
    go : (x : Bool) → first ((17, not x) ∷ (24, true) ∷ []) ≢ 0
    go true e = omega arith
    go false e = omega arith

made_up : {after : List ℕ} → ¬ Step after_one (entry (pos 3) 20 50 ∷ []) after
made_up (accepted scratch p) = refused_booking scratch (ap (λ (b : Booked). b.status) (sym p))

-- a status other than 0 is fixed
fixed_one : {n : ℕ} (m : ℕ) → (n ≡ suc m) ⊎ ((suc m ≡ 0) × (n ≡ 24)) → n ≡ suc m
fixed_one m (inl e) = e
fixed_one m (inr e) = absurd (omega (arith, e.0))

-- ---- what is struck out is even in number

reordered_length : {xs ys : List Change} → Reordered xs ys → length xs ≡ length ys
reordered_length same = refl
reordered_length (next r) = ap suc (reordered_length r)
reordered_length swap = refl
reordered_length (then r q) = reordered_length r ∙ reordered_length q

couples_length : (bs : List Booking) → length (couples bs) ≡ 2 * length bs
unfolding couples
couples_length [] = refl
couples_length (b ∷ bs) = omega (arith, couples_length bs)

differs : ¬ SameChanges (entry (pos 6) 10 40 ∷ []) []
differs S =
    omega (
      arith,
      reordered_length S.of_x,
      reordered_length S.of_y,
      length-append (couples S.struck_x) S.left,
      length-append (couples S.struck_y) S.left,
      couples_length S.struck_x,
    )

pub list_cases : ListCases
unfolding every_call empty_book entered book_pair items_pair runs_after runs_of listing_of one windowed fixed_status couples fresh_image before_image after_one after_two after_three three_changes greatest_one greatest_book change_made Throughout a_day roomier withdrawn_there after_season in_four in_five a_season rebuild_of
list_cases =
    record {
      fixed = (refl, refl, refl, refl);
      made_by_status = (refl, refl);
      day = a_day;
      before_day = extended (formatted_before (replicate (512 * 2) 0) refl) (accepted (7 ∷ 7 ∷ []) refl);
      season = a_season;
      before_season = rebuilt (replicate 1024 9) (7 ∷ 7 ∷ []) (formatted_before (replicate (512 * 2) 0) refl) refl;
      first_of_season = λ h. omega (arith, h.0.0.0.0.0.0);
      five_in_season = λ h. omega (arith, h.0.1);
      last_of_season = λ h. omega (arith, h.1);
      within_season = ((((((omega arith, omega arith), omega arith), omega arith), omega arith), omega arith), omega arith);
      accepted_rebuild = λ step. let e : ◌≡◌ {A = ℕ} 0 1 = ap (λ img. (head 2 img).changes) (stayed step) in omega arith;
      book_rebuild = (refl, refl);
      two_capacities = λ D T U. D.demand_3_two T U (record { struck_x = []; struck_y = []; left = _; of_x = same; of_y = same });
      all_day = ((((((omega arith, omega arith), omega arith), omega arith), omega arith), omega arith), omega arith);
      last_of_day = λ h. omega (arith, h.1);
      first_of_day = λ h. omega (arith, h.0.0.0.0.0.0);
      claimed = λ h. (
        h.instant_end END (omega arith),
        (h.instants 39 (omega arith)).1,
        h.average_end END (omega arith),
        h.averages 39 (omega arith),
      );
      claimed_listing = λ h. h.listings 30 41 (replicate 34 9);
      claimed_greatest = λ h. h.averages 40 (omega arith);
      claimed_audit = λ h. (h.audits [], h.audits (7 ∷ 7 ∷ []));
      claimed_booking = λ h. fixed_one 21 (h.bookings withdrawing (pos 6) 10 40 (7 ∷ 7 ∷ []));
      accepted_format = λ step. let e : ◌≡◌ {A = ℕ} 0 1 = ap (λ img. (head 2 img).changes) (stayed step) in omega arith;
      change_left_out = λ step. let e : ◌≡◌ {A = ℕ} 2 1 = ap (λ img. (head 2 img).changes) (stayed step) in omega arith;
      change_made_up = made_up;
      couple = refl;
      struck_out = record { struck_x = struck ∷ []; struck_y = []; left = entry (pos 3) 20 50 ∷ []; of_x = next swap; of_y = same };
      withdrawn_first =
          record { struck_x = struck ∷ []; struck_y = []; left = entry (pos 3) 20 50 ∷ []; of_x = then (next swap) swap; of_y = same };
      other_order =
          record {
            struck_x = [];
            struck_y = [];
            left = entry (pos 6) 10 40 ∷ entry (pos 3) 20 50 ∷ [];
            of_x = same;
            of_y = swap;
          };
      different = differs;
      struck_from_both =
          record {
            struck_x = struck ∷ struck_too ∷ [];
            struck_y = struck_too ∷ [];
            left = entry (pos 3) 20 50 ∷ [];
            of_x = then (next swap) (next (next (next swap)));
            of_y = then (next swap) swap;
          };
    }
