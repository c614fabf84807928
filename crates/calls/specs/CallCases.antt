-- Calls on an image of two pages of four entries (half of which is 2), one behind another: cases that compute. Assumes nothing.
use Rattle.std.specs.Prelude.{ℕ, ◌*◌, ◌≡◌, List, [], ◌∷◌, ◌++◌, map, replicate, ℤ, pos}
use Rattle.rule.specs.declared.Average.TheVariants.{Hundredths, Nothing}
use Rattle.rule.specs.Time.{END}
use Rattle.rule.specs.Pairs.{pair, none}
use Rattle.fields.specs.Bytes.{patch}
use Rattle.calls.specs.Changes.{entering, withdrawing}
use Rattle.calls.specs.Calls.{Booked, no_instant}
use Rattle.calls.specs.Index.{index_format, format_before, index_book, index_instant, index_average, index_listing, index_audit}

-- freshly formatted: kind 1, no window
unfoldable pub fresh_image : List ℕ
fresh_image = (index_format 1 0 4 (replicate (112 * 2) 0)).image

-- document 01's own fresh image, of two pages of 512 bytes
unfoldable pub before_image : List ℕ
before_image = (format_before 1 0 (replicate (512 * 2) 0)).image

-- bookings with scratch enough: a byte, and one beyond
abbrev pub enters : ℤ → ℕ → ℕ → List ℕ → Booked
enters v s e img = index_book entering v s e img (7 ∷ 7 ∷ [])

abbrev pub withdraws : ℤ → ℕ → ℕ → List ℕ → Booked
withdraws v s e img = index_book withdrawing v s e img (7 ∷ 7 ∷ [])

-- 6 on [10, 40), which leaves three leaf entries; the same withdrawn; and 3 on [20, 50), which fits only now
unfoldable pub after_one : List ℕ
after_one = (enters (pos 6) 10 40 fresh_image).image

unfoldable pub after_two : List ℕ
after_two = (withdraws (pos 6) 10 40 after_one).image

unfoldable pub after_three : List ℕ
after_three = (enters (pos 3) 20 50 after_two).image

-- the first on an image of kind 2
unfoldable pub greatest_one : List ℕ
greatest_one = (enters (pos 6) 10 40 (index_format 2 0 4 (replicate (112 * 2) 0)).image).image

pub record CallCases : Type 0 where
  -- "Each gets the image as the last one left it": 3 on [20, 50) fits in the fresh image, and not in what the first booking left.
  pub fits_at_first : (enters (pos 3) 20 50 fresh_image).status ≡ 0
  pub fits_no_more : (enters (pos 3) 20 50 after_one).status ≡ 24
  -- Each call that is refused there, by its status.
  pub refused_statuses :
      ((enters (pos 1) 5 5 after_one).status ≡ 11)
      × ((index_instant END after_one).status ≡ 12)
      × ((enters (pos 1000001) 5 6 after_one).status ≡ 13)
      × ((index_format 4 0 4 after_one).status ≡ 14)
      × ((index_listing 0 50 after_one []).status ≡ 15)
      × ((index_audit (after_one ++ (255 ∷ [])) []).status ≡ 16)
      × ((index_audit after_one []).status ≡ 17)
  -- A bad capacity turns a booking back with its scratch untouched.
  pub bad_capacity :
      let img = patch fresh_image 36 (5 ∷ []) in
      enters (pos 6) 10 40 img ≡ record { status = 21; image = img; scratch = 7 ∷ 7 ∷ [] }
  -- What a refused booking and a refused format leave is what they found.
  pub refused_leaves : ((enters (pos 3) 20 50 after_one).image ≡ after_one) × ((index_format 4 0 4 after_one).image ≡ after_one)
  -- What a booking leaves is what the next call finds.
  pub left_one : index_instant 20 after_one ≡ record { status = 0; pair = pair (pos 6) (pos 1); start = 10; end = 40; pages = 1 }
  pub not_left : index_instant END after_one ≡ no_instant 12 0
  pub left_twice : (index_instant 20 (enters (pos 6) 10 40 after_one).image).pair ≡ pair (pos 12) (pos 2)
  pub left_two : (index_instant 20 after_two).pair ≡ none
  pub left_three :
      map (λ t. (index_instant t after_three).pair) (19 ∷ 20 ∷ 49 ∷ 50 ∷ [])
      ≡ none ∷ pair (pos 3) (pos 1) ∷ pair (pos 3) (pos 1) ∷ none ∷ []
  -- An average, at an instant, where nothing counts, and at END; and for kind 2, where there is none.
  pub averaged :
      (index_average 20 after_one ≡ record { status = 0; average = Hundredths (pos 600) })
      × (index_average 40 after_one ≡ record { status = 0; average = Nothing })
      × (index_average END after_one ≡ record { status = 12; average = Nothing })
  pub averaged_greatest :
      (index_instant 20 greatest_one ≡ record { status = 0; pair = pair (pos 6) (pos 1); start = 10; end = 40; pages = 1 })
      × (index_average 20 greatest_one ≡ record { status = 0; average = Nothing })
