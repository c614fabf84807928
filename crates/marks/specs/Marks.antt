-- Document 01, "Marks from the test rack": the cases marked * as one list over the definitions, and with them unmarked ones that
-- compute as well. Assumes nothing.
use Rattle.std.specs.Prelude.{ℕ, zero, suc, ◌*◌, ◌+◌, ◌≡◌, List, [], ◌∷◌, replicate, ℤ, pos, negsuc}
use Rattle.rule.specs.declared.Pair.{Pair}
use Rattle.rule.specs.declared.Average.TheVariants.{Hundredths, Nothing}
use Rattle.rule.specs.Time.{END}
use Rattle.rule.specs.Pairs.{pair, none}
use Rattle.rule.specs.Averages.{average}
use Rattle.image.specs.Images.{pages_in, page_at}
use Rattle.image.specs.Listing.{Run, run}
use Rattle.page.specs.Layout.{entry_count}
use Rattle.calls.specs.Changes.{Side, entering, withdrawing}
use Rattle.calls.specs.Calls.{head, runs_over}
use Rattle.calls.specs.Index.{index_format, index_book, index_instant}

-- "The program and document 01's cases keep K = 24."
abbrev pub half : ℕ
half = 12

-- a freshly formatted image of n pages, which held zeros before
unfoldable pub formatted : ℕ → ℕ → ℕ → List ℕ
formatted n kind window = (index_format kind window 24 (replicate (512 * n) 0)).image

-- the status of a booking on an image, with a scratch of one byte a page, and the image that it leaves
unfoldable pub status : Side → ℤ → ℕ → ℕ → List ℕ → ℕ
status side v s e img = (index_book side v s e img (replicate (pages_in half img) 7)).status

unfoldable pub after : Side → ℤ → ℕ → ℕ → List ℕ → List ℕ
after side v s e img = (index_book side v s e img (replicate (pages_in half img) 7)).image

unfoldable pub pair_of : ℕ → List ℕ → Pair
pair_of t img = (index_instant t img).pair

-- the status of an instant call with it: a refusal has (0, 0) too
unfoldable pub status_and_pair : ℕ → List ℕ → ℕ × Pair
status_and_pair t img = ((index_instant t img).status, pair_of t img)

unfoldable pub full_listing : List ℕ → List Run
full_listing img = runs_over half 0 END img

-- how many entries the root has
unfoldable pub root_entries : List ℕ → ℕ
root_entries img = entry_count (page_at half img (head half img).root)

-- "Enter 6 on [10, 40)" and "Then withdraw it", on a fresh image of four pages
unfoldable pub one_booking : List ℕ
one_booking = after entering (pos 6) 10 40 (formatted 4 1 0)

unfoldable pub withdrawn : List ℕ
withdrawn = after withdrawing (pos 6) 10 40 one_booking

-- "Kind 2, w = 20, enter 4 on [35, 45)"
unfoldable pub greatest_booking : List ℕ
greatest_booking = after entering (pos 4) 35 45 (formatted 4 2 20)

-- "Value 1 on [10, 15), [20, 25) and so on": k of them
unfoldable pub in_a_row : ℕ → List ℕ → List ℕ
in_a_row zero img = img
in_a_row (suc k) img = after entering (pos 1) (10 * suc k) (10 * suc k + 5) (in_a_row k img)

-- the program's example, on fewer pages: it needs no more than two
unfoldable pub example : List ℕ
example =
    after entering (pos 5) 20 25 (after entering (pos 3) 20 50 (after entering (pos 6) 10 40 (formatted 2 1 0)))

pub record Marks : Type 0 where
  -- * "Fresh: instant 0 gives (0, 0), 1 page read."
  pub fresh : index_instant 0 (formatted 64 1 0) ≡ record { status = 0; pair = none; start = 0; end = END; pages = 1 }
  -- * "Enter 6 on [10, 40): instant 9 (0, 0); * 10 and 39 (6, 1); * 40 (0, 0)."
  pub enters : status entering (pos 6) 10 40 (formatted 64 1 0) ≡ 0
  pub before : status_and_pair 9 one_booking ≡ (0, none)
  pub at_start : status_and_pair 10 one_booking ≡ (0, pair (pos 6) (pos 1))
  pub at_end : status_and_pair 39 one_booking ≡ (0, pair (pos 6) (pos 1))
  pub behind : status_and_pair 40 one_booking ≡ (0, none)
  -- * "Then withdraw it: one run, one leaf entry."
  pub withdraws : status withdrawing (pos 6) 10 40 one_booking ≡ 0
  pub one_run : full_listing withdrawn ≡ run 0 none ∷ []
  pub one_entry : root_entries withdrawn ≡ 1
  -- * "1,000,000 passes, * 1,000,001 gives 13. * [5, 5) gives 11 even with a value too large. [0, END) needs no cut."
  pub passes : status entering (pos 1000000) 10 40 (formatted 2 1 0) ≡ 0
  pub too_large : status entering (pos 1000001) 10 40 (formatted 2 1 0) ≡ 13
  pub too_small : status entering (negsuc 1000000) 10 40 (formatted 2 1 0) ≡ 13
  pub empty_span : status entering (pos 1000001) 5 5 (formatted 2 1 0) ≡ 11
  pub no_cut : root_entries (after entering (pos 1) 0 END (formatted 2 1 0)) ≡ 1
  pub whole_span : full_listing (after entering (pos 1) 0 END (formatted 2 1 0)) ≡ run 0 (pair (pos 1) (pos 1)) ∷ []
  -- * "Kind 2, w = 20, enter 4 on [35, 45): 64 gives (4, 1), * 65 (0, 0); withdrawing gives 22."
  pub last_in_window : status_and_pair 64 greatest_booking ≡ (0, pair (pos 4) (pos 1))
  pub past_window : status_and_pair 65 greatest_booking ≡ (0, none)
  pub no_withdrawal : status withdrawing (pos 4) 35 45 greatest_booking ≡ 22
  -- * "Sum −1, count 8 averages −13 hundredths; * count −1 none." Document 02, (ix): "Document 01's −13 becomes −12".
  pub half_to_even : average 1 (pair (negsuc 0) (pos 8)) ≡ Hundredths (negsuc 11)
  pub no_average : average 1 (pair (negsuc 0) (negsuc 0)) ≡ Nothing
  -- "Value 1 on [10, 15), [20, 25) and so on: 11 leave 23 leaf entries; the twelfth takes two pages: 24 at n = 3, height 2 at n = 4."
  pub eleven : root_entries (in_a_row 11 (formatted 3 1 0)) ≡ 23
  pub twelfth_lacks : status entering (pos 1) 120 125 (in_a_row 11 (formatted 3 1 0)) ≡ 24
  pub twelfth_grows : (head half (in_a_row 12 (formatted 4 1 0))).height ≡ 2
  -- "runs 6", for `+ 6 10 40`, `+ 3 20 50`, `+ 5 20 25`
  pub six_runs :
      full_listing example
      ≡ run 0 none ∷ run 10 (pair (pos 6) (pos 1)) ∷ run 20 (pair (pos 14) (pos 3)) ∷ run 25 (pair (pos 9) (pos 2))
      ∷ run 40 (pair (pos 3) (pos 1)) ∷ run 50 none ∷ []
