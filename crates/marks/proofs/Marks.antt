-- The cases of document 01's test rack hold: each is computed, on images of 2 to 64 pages. Those that compute longest stand by themselves:
-- what one of them has computed is let go before the next. Assumes nothing.
use Prim.Native.Nat.{ℕ}
use mathlib.Core.Path.{◌≡◌, refl, ap}
use mathlib.Core.List.{List}
use lib.IntN.{pos}
use Rattle.calls.specs.Changes.{entering}
use Rattle.calls.specs.Calls.{head}
use Rattle.marks.specs.Marks.{Marks, half, formatted, status, root_entries, in_a_row}
use Rattle.marks.proofs.Opened.{all_definitions}

enters : status entering (pos 6) 10 40 (formatted 64 1 0) ≡ 0
unfolding all_definitions
enters = refl

-- The image after eleven bookings in a row is asked for both at once, and so computed once.
abbrev entries_and_twelfth : List ℕ → ℕ × ℕ
entries_and_twelfth img = (root_entries img, status entering (pos 1) 120 125 img)

after_eleven : entries_and_twelfth (in_a_row 11 (formatted 3 1 0)) ≡ (23, 24)
unfolding all_definitions
after_eleven = refl

eleven : root_entries (in_a_row 11 (formatted 3 1 0)) ≡ 23
eleven = ap (λ (x : ℕ × ℕ). x.0) after_eleven

twelfth_lacks : status entering (pos 1) 120 125 (in_a_row 11 (formatted 3 1 0)) ≡ 24
twelfth_lacks = ap (λ (x : ℕ × ℕ). x.1) after_eleven

twelfth_grows : (head half (in_a_row 12 (formatted 4 1 0))).height ≡ 2
unfolding all_definitions
twelfth_grows = refl

pub marks : Marks
unfolding all_definitions
marks =
    record {
      fresh = refl;
      enters = enters;
      before = refl;
      at_start = refl;
      at_end = refl;
      behind = refl;
      withdraws = refl;
      one_run = refl;
      one_entry = refl;
      passes = refl;
      too_large = refl;
      too_small = refl;
      empty_span = refl;
      no_cut = refl;
      whole_span = refl;
      last_in_window = refl;
      past_window = refl;
      no_withdrawal = refl;
      half_to_even = refl;
      no_average = refl;
      eleven = eleven;
      twelfth_lacks = twelfth_lacks;
      twelfth_grows = twelfth_grows;
      six_runs = refl;
    }
