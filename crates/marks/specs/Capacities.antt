-- Cases of document 02, (xi), that compute: which capacities there are, where an image has its own, and what each call makes of it.
-- Assumes nothing.
use Rattle.std.specs.Prelude.{ℕ, ◌*◌, ◌+◌, ◌≡◌, true, false, List, [], ◌∷◌, ◌++◌, map, length, replicate, ℤ, pos}
use Rattle.rule.specs.declared.Average.TheVariants.{Nothing}
use Rattle.rule.specs.Pairs.{pair, none}
use Rattle.fields.specs.Bytes.{part, patch}
use Rattle.fields.specs.Numbers.{u32_bytes}
use Rattle.lists.specs.Lists.{concat_map}
use Rattle.page.specs.Entries.{entry}
use Rattle.page.specs.Layout.{capacity_ok, entries_of}
use Rattle.image.specs.Images.{half_of, page_at}
use Rattle.calls.specs.Changes.{entering}
use Rattle.calls.specs.Calls.{Booked, no_instant}
use Rattle.calls.specs.Index.{judge, index_format, format_before, index_book, index_instant, index_average, index_listing, index_audit}

-- two fresh pages of four entries
unfoldable pub of_four : List ℕ
of_four = (index_format 1 0 4 (replicate (112 * 2) 0)).image

-- 6 entered on [10, 40)
abbrev pub enters : List ℕ → Booked
enters img = index_book entering (pos 6) 10 40 img (7 ∷ 7 ∷ 7 ∷ [])

-- the capacity's field of an image set to a number
unfoldable pub with_field : ℕ → List ℕ → List ℕ
with_field k img = patch img 36 (u32_bytes k)

-- document 01's own fresh image of two pages
unfoldable pub of_before : List ℕ
of_before = (format_before 1 0 (replicate (512 * 2) 0)).image

-- four pages of six entries: the third booking splits the root
abbrev pub books : ℤ → ℕ → ℕ → List ℕ → List ℕ
books v s e img = (index_book entering v s e img (replicate 4 7)).image

unfoldable pub of_six : List ℕ
of_six = books (pos 1) 50 60 (books (pos 2) 30 40 (books (pos 1) 10 20 (index_format 1 0 6 (replicate (152 * 4) 0)).image))

-- a leaf full with four entries that says it has n
unfoldable pub counted : ℕ → List ℕ
counted n =
    patch (patch of_four 32 (u32_bytes 1)) (112 + 4)
    (u32_bytes n ++ (replicate 24 255 ++ (concat_map u32_bytes (0 ∷ 1 ∷ 2 ∷ 3 ∷ 4 ∷ []) ++ replicate 60 0)))

-- every call on an image: the statuses
unfoldable pub statuses : List ℕ → List ℕ
statuses img =
    (enters img).status ∷ (index_instant 0 img).status ∷ (index_average 0 img).status ∷ (index_listing 0 9 img (replicate 16 7)).status
    ∷ (index_audit img (7 ∷ 7 ∷ [])).status
    ∷ []

pub record CapacityCases : Type 0 where
  -- "The capacity K is an even number from 4 to 24"
  pub ok : map capacity_ok (4 ∷ 6 ∷ 12 ∷ 22 ∷ 24 ∷ []) ≡ true ∷ true ∷ true ∷ true ∷ true ∷ []
  pub bad : map capacity_ok (0 ∷ 2 ∷ 3 ∷ 5 ∷ 23 ∷ 25 ∷ 26 ∷ 4294967295 ∷ []) ≡ replicate 8 false
  -- "stored in the head after changes": its four bytes, and FF behind them; "a page has 32 + 20 × K bytes"
  pub stored : part of_four 32 12 ≡ 0 ∷ 0 ∷ 0 ∷ 0 ∷ 4 ∷ 0 ∷ 0 ∷ 0 ∷ 255 ∷ 255 ∷ 255 ∷ 255 ∷ []
  pub sized : map (λ n. (index_format 1 0 6 (replicate n 0)).status) (304 ∷ 303 ∷ 224 ∷ []) ≡ 0 ∷ 16 ∷ 16 ∷ []
  -- "and each array K places": the sums begin behind four starts
  pub arrays : part of_four (112 + 28) 28 ≡ replicate 4 255 ++ (replicate 4 0 ++ (replicate 12 255 ++ replicate 8 0))
  -- "An odd K or one outside its range gives 14 at format, ahead of 16"; then 16 by that K, then 14 for kind and window
  pub format_14 : index_format 9 0 5 (replicate 7 0) ≡ record { status = 14; image = replicate 7 0 }
  pub format_16 : index_format 9 0 6 of_four ≡ record { status = 16; image = of_four }
  pub format_kind : index_format 9 0 4 of_four ≡ record { status = 14; image = of_four }
  pub format_ff : (index_format 1 0 4294967295 (replicate (512 * 2) 0)).status ≡ 14
  -- "In an image K is read before the length is judged: under 40 bytes gives 16, a bad K 21 ahead of 16"
  pub lengths :
      map statuses (replicate 39 0 ∷ (replicate 36 0 ++ u32_bytes 4) ∷ replicate 40 255 ∷ part of_four 0 112 ∷ [])
      ≡ replicate 4 (replicate 5 16)
  pub bad_ahead : map statuses (replicate 40 0 ∷ with_field 5 of_four ∷ with_field 26 of_four ∷ []) ≡ replicate 3 (replicate 5 21)
  pub wide_field : map judge (map (λ k. with_field k of_four) (260 ∷ 65540 ∷ 4294967294 ∷ [])) ≡ replicate 3 21
  pub length_behind : statuses (of_four ++ (255 ∷ [])) ≡ replicate 5 16
  -- "scratch untouched", and no page is read
  pub bad_scratch : enters (with_field 5 of_four) ≡ record { status = 21; image = with_field 5 of_four; scratch = 7 ∷ 7 ∷ 7 ∷ [] }
  pub bad_audit : index_audit (with_field 5 of_four) (7 ∷ []) ≡ record { status = 21; scratch = 7 ∷ [] }
  pub bad_instant : index_instant 4294967295 (with_field 5 of_four) ≡ no_instant 21 0
  pub bad_average : index_average 0 (with_field 5 of_four) ≡ record { status = 21; average = Nothing }
  pub bad_listing : index_listing 9 9 (with_field 5 of_four) (7 ∷ []) ≡ record { status = 21; runs = 0; output = 7 ∷ [] }
  -- a length that is right for another K
  pub other_length : statuses (with_field 6 of_four) ≡ replicate 5 16
  -- "an image of 512-byte pages without the field (FF there) reads as K = 24", "a change keeps the field's bytes"
  pub before : part of_before 36 4 ≡ replicate 4 255
  pub before_reads : (half_of of_before ≡ 12) × (statuses of_before ≡ replicate 5 0)
  pub before_kept : part (enters of_before).image 36 4 ≡ replicate 4 255
  pub before_answers : index_instant 39 (enters of_before).image ≡
      record { status = 0; pair = pair (pos 6) (pos 1); start = 10; end = 40; pages = 1 }
  pub field_kept : part (enters of_four).image 36 4 ≡ 4 ∷ 0 ∷ 0 ∷ 0 ∷ []
  -- FF in an image of other pages: 16
  pub before_length : statuses (with_field 4294967295 of_four) ≡ replicate 5 16
  -- "the head's range becomes 1 to 10 at every K"
  pub height_10 : index_instant 0 (patch of_four 4 (u32_bytes 10)) ≡ no_instant 21 1
  pub height_11 : index_instant 0 (patch of_four 4 (u32_bytes 11)) ≡ no_instant 21 0
  pub height_24 : map (λ img. (index_instant 0 (patch img 4 (u32_bytes 10))).pages) (of_before ∷ with_field 24 of_before ∷ []) ≡ 1 ∷ 1 ∷ []
  -- a page of four entries that says it has five: the fifth start would be a part of the first entry's sum
  pub four : index_instant 0 (counted 4) ≡ record { status = 0; pair = pair (pos 4) (pos 0); start = 0; end = 1; pages = 1 }
  pub five : index_instant 0 (counted 5) ≡ no_instant 21 1
  -- "a split keeps K/2 and moves K/2 + 1, and a neighbour gives from K/2 + 1 up"
  pub six_keeps : entries_of 3 (page_at 3 of_six 1) ≡ entry 0 none 0 ∷ entry 10 (pair (pos 1) (pos 1)) 0 ∷ entry 20 none 0 ∷ []
  pub six_moves : entries_of 3 (page_at 3 of_six 2) ≡
      entry 30 (pair (pos 2) (pos 1)) 0 ∷ entry 40 none 0 ∷ entry 50 (pair (pos 1) (pos 1)) 0 ∷ entry 60 none 0 ∷ []
  pub six_gives : entries_of 3 (page_at 3 (books (pos 1) 20 30 of_six) 1) ≡
      entry 0 none 0 ∷ entry 10 (pair (pos 1) (pos 1)) 0 ∷ entry 30 (pair (pos 2) (pos 1)) 0 ∷ []
  -- "Half is K/2": a leaf left with two of its three entries is unfit
  pub six_fewest :
      index_instant 12 (patch (patch (patch of_six (152 + 4) (u32_bytes 2)) (152 + 40) (replicate 4 255)) (152 + 88) (replicate 16 255))
      ≡ no_instant 21 2
  -- an image without the field is that of 24 but for these four bytes, after a change too
  pub before_alone : with_field 24 (enters of_before).image ≡ (enters (index_format 1 0 24 (replicate (512 * 2) 0)).image).image
