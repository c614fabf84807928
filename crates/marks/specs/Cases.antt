-- Further cases that compute: one or more for each reading of document 01 that a wrong definition could get past the rack's marks with.
-- Most are on pages of four entries (half of which is 2), where splits and joins come early. Assumes nothing.
use Rattle.std.specs.Prelude.{ℕ, ◌*◌, ◌+◌, ◌≡◌, true, false, List, [], ◌∷◌, ◌++◌, map, replicate, ℤ, pos, negsuc}
use Rattle.rule.specs.Time.{END, effect_end}
use Rattle.rule.specs.declared.Average.TheVariants.{Hundredths}
use Rattle.rule.specs.Pairs.{pair, none}
use Rattle.rule.specs.Averages.{average}
use Rattle.fields.specs.Bytes.{part, patch}
use Rattle.fields.specs.Numbers.{u32_bytes, i64_bytes}
use Rattle.page.specs.Entries.{entry}
use Rattle.page.specs.Layout.{entries_of}
use Rattle.image.specs.Images.{page_at, image_bytes, fresh}
use Rattle.image.specs.Sound.{sound}
use Rattle.image.specs.Listing.{run}
use Rattle.calls.specs.Changes.{Side, entering, withdrawing}
use Rattle.calls.specs.Calls.{head, no_instant, runs_over}
use Rattle.calls.specs.Refusals.{borrowed}
use Rattle.calls.specs.Index.{index_format, index_book, index_instant, index_listing, index_audit, index_audit_bytewise}
use Rattle.calls.specs.Program.{program, average_text}
use Rattle.marks.specs.Marks.{half, formatted, status, after, pair_of, full_listing, one_booking}

-- s with byte b at offset o
unfoldable pub with_byte : ℕ → ℕ → List ℕ → List ℕ
with_byte o b s = patch s o (b ∷ [])

-- one change on pages of four entries, with scratch enough for six pages and five bytes beyond
unfoldable pub step : Side → ℤ → ℕ → ℕ → List ℕ → List ℕ
step side v s e img = (index_book side v s e img (replicate 6 7)).image

-- n pages of four entries, freshly formatted
unfoldable pub small : ℕ → List ℕ
small n = (index_format 1 0 4 (replicate (112 * n) 0)).image

-- two bookings that split the root leaf; the second withdrawn; and entered once more
unfoldable pub grown_root : List ℕ
grown_root = step entering (pos 1) 20 25 (step entering (pos 1) 10 15 (small 4))

unfoldable pub collapsed_again : List ℕ
collapsed_again = step withdrawing (pos 1) 20 25 grown_root

unfoldable pub again : List ℕ
again =
    step entering (pos 1) 20 25
    (step withdrawing (pos 1) 20 25 (step entering (pos 1) 20 25 (step entering (pos 1) 10 15 (small 6))))

-- a byte of the 24 unused ones of page 2, the right leaf, and of page 3, the root, is not FF
unfoldable pub hurt_leaf : List ℕ
hurt_leaf = with_byte (2 * 112 + 8) 0 grown_root

unfoldable pub hurt_root : List ℕ
hurt_root = with_byte (3 * 112 + 8) 0 grown_root

-- A sound image of kind 2 that no call leaves: nothing was changed since format, and yet its leaf has two entries, of equal pairs.
unfoldable pub unhealed : List ℕ
unhealed = patch (patch (with_byte 24 2 (with_byte (112 + 4) 2 (small 4))) (112 + 36) (u32_bytes 10)) (112 + 64) (replicate 16 0)

-- a page below the root splits
unfoldable pub split_below : List ℕ
split_below =
    step entering (pos 2) 4 8
    (step entering (pos 1) 6 16
    (step entering (pos 1) 6 9
    (step withdrawing (pos 2) 0 9
    (step entering (pos 2) 9 10 (step entering (pos 1) 9 20 (step entering (pos 2) 0 9 (step entering (pos 2) 2 9 (small 6))))))))

-- a left neighbour gives
unfoldable pub redistributed_left : List ℕ
redistributed_left =
    step withdrawing (pos 1) 3 7
    (step entering (pos 1) 5 17
    (step entering (pos 1) 3 7 (step entering (pos 1) 11 23 (step entering (pos 1) 3 6 (step entering (pos 2) 3 12 (small 6))))))

-- a right neighbour gives; then it joins, and the root goes
unfoldable pub given_right : List ℕ
given_right =
    step withdrawing (pos 1) 5 12 (step entering (pos 1) 0 10 (step entering (pos 1) 5 12 (step entering (pos 2) 8 9 (small 6))))

unfoldable pub redistributed_right : List ℕ
redistributed_right = step withdrawing (pos 2) 8 9 given_right

-- two pages join
unfoldable pub merged_right : List ℕ
merged_right =
    step withdrawing (pos 2) 6 14
    (step entering (pos 2) 9 20 (step entering (pos 1) 7 12 (step entering (pos 2) 6 14 (step entering (pos 1) 7 10 (small 6)))))

pub record Cases : Type 0 where
  -- The first run starts at a, wherever its entry starts.
  pub clip : runs_over half 20 30 one_booking ≡ run 20 (pair (pos 6) (pos 1)) ∷ []
  pub clip_3 : runs_over half 20 41 one_booking ≡ run 20 (pair (pos 6) (pos 1)) ∷ run 40 none ∷ []
  -- At height 2 two pages are read, a leaf that is hurt counts, and after a hurt root no page.
  pub pages_2 : index_instant 10 grown_root ≡ record { status = 0; pair = pair (pos 1) (pos 1); start = 10; end = 15; pages = 2 }
  pub height_2 : runs_over 2 0 END grown_root ≡ run 0 none ∷ run 10 (pair (pos 1) (pos 1)) ∷ run 15 none
      ∷ run 20 (pair (pos 1) (pos 1)) ∷ run 25 none ∷ []
  -- The start and the end are the leaf entry's: the last one of a page ends where the entry above does, the very last at END.
  pub starts :
      map (λ t. (index_instant t grown_root).start) (0 ∷ 9 ∷ 10 ∷ 14 ∷ 15 ∷ 19 ∷ 24 ∷ 25 ∷ 4294967294 ∷ [])
      ≡ 0 ∷ 0 ∷ 10 ∷ 10 ∷ 15 ∷ 15 ∷ 20 ∷ 25 ∷ 25 ∷ []
  pub ends :
      map (λ t. (index_instant t grown_root).end) (0 ∷ 9 ∷ 10 ∷ 14 ∷ 15 ∷ 19 ∷ 24 ∷ 25 ∷ 4294967294 ∷ [])
      ≡ 10 ∷ 10 ∷ 15 ∷ 15 ∷ 20 ∷ 20 ∷ 25 ∷ END ∷ END ∷ []
  -- A refusal tells neither, though the tree has them at that instant: at END, at another length, with a high mark past the last page.
  pub told_12 : index_instant END grown_root ≡ no_instant 12 0
  pub told_16 : index_instant 20 (grown_root ++ (255 ∷ [])) ≡ no_instant 16 0
  pub told_21 : index_instant 20 (patch grown_root 20 (u32_bytes 7)) ≡ no_instant 21 0
  pub pages_hurt_leaf : index_instant 21 hurt_leaf ≡ no_instant 21 2
  pub left_leaf_unhurt : index_instant 11 hurt_leaf ≡ record { status = 0; pair = pair (pos 1) (pos 1); start = 10; end = 15; pages = 2 }
  pub pages_hurt_root : index_instant 11 hurt_root ≡ no_instant 21 1
  pub pages_end : index_instant END hurt_root ≡ no_instant 12 0
  -- A page that starts at b is not met.
  pub b_starts_hurt : (index_listing 0 15 hurt_leaf []).status ≡ 15
  pub b_past_hurt : (index_listing 0 16 hurt_leaf []).status ≡ 21
  -- 15 goes by bytes, and bytes past the last run keep what they held.
  pub out_31 : index_listing 0 40 one_booking (replicate 31 9) ≡ record { status = 15; runs = 0; output = replicate 31 9 }
  pub out_33 : index_listing 0 40 one_booking (replicate 33 9) ≡
      record {
        status = 0;
        runs = 2;
        output = 0 ∷ 0 ∷ 0 ∷ 0 ∷ 0 ∷ 0 ∷ 0 ∷ 0 ∷ 0 ∷ 0 ∷ 0 ∷ 0 ∷ 0 ∷ 0 ∷ 0 ∷ 0 ∷ 10 ∷ 0 ∷ 0 ∷ 0 ∷ 1 ∷ 0
            ∷ 0 ∷ 0 ∷ 6 ∷ 0 ∷ 0 ∷ 0 ∷ 0 ∷ 0 ∷ 0 ∷ 0 ∷ 9 ∷ [];
      }
  -- Scratch is untouched at 13 and 17; at 22 and 0 the first byte, enough for eight pages, is 0, and those beyond keep theirs.
  pub scratch_13 : (index_book entering (pos 1000001) 10 40 (formatted 2 1 0) (7 ∷ 7 ∷ 7 ∷ [])).scratch ≡ 7 ∷ 7 ∷ 7 ∷ []
  pub scratch_22 : (index_book withdrawing (pos 1) 10 40 (formatted 2 2 0) (7 ∷ 7 ∷ 7 ∷ [])).scratch ≡ 0 ∷ 7 ∷ 7 ∷ []
  pub scratch_0 : (index_book entering (pos 1) 10 40 (formatted 2 1 0) (7 ∷ 7 ∷ 7 ∷ [])).scratch ≡ 0 ∷ 7 ∷ 7 ∷ []
  pub scratch_17 : index_book entering (pos 1) 10 10 (small 9) (7 ∷ []) ≡ record { status = 17; image = small 9; scratch = 7 ∷ [] }
  -- "n/8 bytes, rounded up": a ninth page takes a second byte, and a caller who lends nine has the rest back as it was. Before, eight
  -- were too few for nine pages.
  pub borrows : map borrowed (2 ∷ 7 ∷ 8 ∷ 9 ∷ 16 ∷ 17 ∷ 1023 ∷ 1024 ∷ []) ≡ 1 ∷ 1 ∷ 1 ∷ 2 ∷ 2 ∷ 3 ∷ 128 ∷ 128 ∷ []
  pub eight_pages : index_audit (small 8) (7 ∷ 7 ∷ []) ≡ record { status = 0; scratch = 0 ∷ 7 ∷ [] }
  pub nine_short : index_audit (small 9) (7 ∷ []) ≡ record { status = 17; scratch = 7 ∷ [] }
  pub nine_pages : index_audit (small 9) (replicate 9 7) ≡ record { status = 0; scratch = 0 ∷ 0 ∷ replicate 7 7 }
  pub nine_bytewise : map (λ n. (index_audit_bytewise (small 9) (replicate n 7)).status) (8 ∷ 9 ∷ []) ≡ 17 ∷ 0 ∷ []
  -- 21 stands ahead of 22, and 22 ahead of 23.
  pub order_21_22 : status withdrawing (pos 1) 10 40 (with_byte 44 0 (formatted 2 2 0)) ≡ 21
  pub order_22_23 : status withdrawing (pos 1) 10 40 (patch (formatted 2 2 0) 32 (u32_bytes 1000000000)) ≡ 22
  pub order_23 : status entering (pos 1) 10 40 (patch (formatted 2 2 0) 32 (u32_bytes 1000000000)) ≡ 23
  -- An effect past END ends there.
  pub cap : full_listing (after entering (pos 1) 5 4294967290 (formatted 2 1 1000000000)) ≡ run 0 none ∷ run 5 (pair (pos 1) (pos 1)) ∷ []
  pub cap_itself : effect_end 4294967290 1000000000 ≡ END
  -- A value of 0 counts: (0, 1) is not (0, 0).
  pub zero_counts : full_listing (after entering (pos 0) 10 40 (formatted 2 1 0)) ≡ run 0 none ∷ run 10 (pair (pos 0) (pos 1))
      ∷ run 40 none ∷ []
  pub zero_greatest : pair_of 10 (after entering (pos 0) 10 40 (formatted 2 2 0)) ≡ pair (pos 0) (pos 1)
  -- Greatest and least of values below zero.
  pub neg_greatest : pair_of 10 (after entering (negsuc 4) 10 40 (formatted 2 2 0)) ≡ pair (negsuc 4) (pos 1)
  pub neg_zero : pair_of 10 (after entering (negsuc 4) 10 40 (after entering (pos 0) 10 30 (formatted 2 2 0))) ≡ pair (pos 0) (pos 1)
  pub least : pair_of 10 (after entering (pos 4) 10 40 (after entering (pos 7) 5 30 (formatted 2 3 0))) ≡ pair (pos 4) (pos 1)
  -- "a half goes to the even hundredth", on both sides of zero and of an even number; and beside a half to the nearer one. Even is the
  -- number of hundredths: 99.5 and 100.5 of them are 100, whatever the whole part of the average.
  pub halves :
      map (λ s. average 1 (pair s (pos 200))) (pos 1 ∷ negsuc 0 ∷ pos 3 ∷ negsuc 2 ∷ pos 5 ∷ negsuc 4 ∷ pos 199 ∷ pos 201 ∷ negsuc 200 ∷ [])
      ≡ Hundredths (pos 0) ∷ Hundredths (pos 0) ∷ Hundredths (pos 2) ∷ Hundredths (negsuc 1) ∷ Hundredths (pos 2) ∷ Hundredths (negsuc 1)
      ∷ Hundredths (pos 100) ∷ Hundredths (pos 100) ∷ Hundredths (negsuc 99) ∷ []
  pub beside_halves :
      map (λ c. average 1 (pair (negsuc 2) (pos c))) (119 ∷ 120 ∷ 121 ∷ 199 ∷ 200 ∷ 201 ∷ 400 ∷ 600 ∷ 601 ∷ [])
      ≡ Hundredths (negsuc 2) ∷ Hundredths (negsuc 1) ∷ Hundredths (negsuc 1) ∷ Hundredths (negsuc 1) ∷ Hundredths (negsuc 1)
      ∷ Hundredths (negsuc 0) ∷ Hundredths (negsuc 0) ∷ Hundredths (pos 0) ∷ Hundredths (pos 0) ∷ []
  -- "and −1 over 200 prints 0.00": -1 over 8, -1, 1 and 3 over 200
  pub halves_printed :
      map (λ p. average_text (average 1 p))
      (pair (negsuc 0) (pos 8) ∷ pair (negsuc 0) (pos 200) ∷ pair (pos 1) (pos 200) ∷ pair (pos 3) (pos 200) ∷ [])
      ≡ (45 ∷ 48 ∷ 46 ∷ 49 ∷ 50 ∷ []) ∷ (48 ∷ 46 ∷ 48 ∷ 48 ∷ []) ∷ (48 ∷ 46 ∷ 48 ∷ 48 ∷ []) ∷ (48 ∷ 46 ∷ 48 ∷ 50 ∷ []) ∷ []
  -- A change is counted.
  pub changes : (head half one_booking).changes ≡ 1
  -- "The image is n pages of 512 bytes, n from 2 to 1,024." Fresh pages are a sound image; with a byte more or less, or as 1,025 pages of
  -- four entries, they are none, whatever head and tree show.
  pub length_exact : sound half (formatted 2 1 0) ≡ true
  pub length_over : sound half (formatted 2 1 0 ++ (255 ∷ [])) ≡ false
  pub length_under : sound half (part (formatted 2 1 0) 0 1023) ≡ false
  pub length_1025 : sound 2 (image_bytes 2 (fresh 1025 1 0 4)) ≡ false
  -- An image that has no history is changed like any other: its leaf's entries stay, and what is left is sound.
  pub unhealed_sound : sound 2 unhealed ≡ true
  pub unhealed_left : entries_of 2 (page_at 2 (step entering (pos 1) 20 25 unhealed) 1) ≡
      entry 0 none 0 ∷ entry 10 none 0 ∷ entry 20 (pair (pos 1) (pos 1)) 0 ∷ entry 25 none 0 ∷ []
  pub unhealed_after : sound 2 (step entering (pos 1) 20 25 unhealed) ≡ true
  -- The chain length is true.
  pub chain_length : (index_audit (with_byte 16 1 (formatted 2 1 0)) (0 ∷ 0 ∷ [])).status ≡ 21
  -- A split root: the leaf takes first, the root after it, and the old page keeps its half.
  pub grown_head : head 2 grown_root ≡
      record { pages = 4; height = 2; root = 3; free = 0; chain = 0; mark = 4; kind = 1; window = 0; changes = 2; capacity = 4 }
  pub grown_entries : entries_of 2 (page_at 2 grown_root 3) ≡ entry 0 none 1 ∷ entry 15 none 2 ∷ []
  -- The bytes of a head, of a leaf, of its entries.
  pub head_bytes : part (formatted 3 2 20) 0 44 ≡ 3 ∷ 0 ∷ 0 ∷ 0 ∷ 1 ∷ 0 ∷ 0 ∷ 0 ∷ 1 ∷ 0 ∷ 0 ∷ 0 ∷ 0 ∷ 0 ∷ 0 ∷ 0 ∷ 0 ∷ 0 ∷ 0 ∷ 0 ∷ 2
      ∷ 0 ∷ 0 ∷ 0 ∷ 2 ∷ 0 ∷ 0 ∷ 0 ∷ 20 ∷ 0 ∷ 0 ∷ 0 ∷ 0 ∷ 0 ∷ 0 ∷ 0 ∷ 24 ∷ 0 ∷ 0 ∷ 0 ∷ 255 ∷ 255 ∷ 255 ∷ 255 ∷ []
  pub leaf_bytes : part (after entering (negsuc 5) 10 40 (formatted 2 1 0)) 512 48 ≡ 0 ∷ 0 ∷ 0 ∷ 0 ∷ 3 ∷ 0 ∷ 0 ∷ 0 ∷ 255 ∷ 255 ∷ 255
      ∷ 255 ∷ 255 ∷ 255 ∷ 255 ∷ 255 ∷ 255 ∷ 255 ∷ 255 ∷ 255 ∷ 255 ∷ 255 ∷ 255 ∷ 255 ∷ 255 ∷ 255 ∷ 255 ∷ 255 ∷ 255 ∷ 255 ∷ 255 ∷ 255
      ∷ 0 ∷ 0 ∷ 0 ∷ 0 ∷ 10 ∷ 0 ∷ 0 ∷ 0 ∷ 40 ∷ 0 ∷ 0 ∷ 0 ∷ 255 ∷ 255 ∷ 255 ∷ 255 ∷ []
  pub entry_bytes : part (after entering (negsuc 5) 10 40 (formatted 2 1 0)) (512 + 128) 52 ≡ 0 ∷ 0 ∷ 0 ∷ 0 ∷ 0 ∷ 0 ∷ 0 ∷ 0 ∷ 0 ∷ 0
      ∷ 0 ∷ 0 ∷ 0 ∷ 0 ∷ 0 ∷ 0 ∷ 250 ∷ 255 ∷ 255 ∷ 255 ∷ 255 ∷ 255 ∷ 255 ∷ 255 ∷ 1 ∷ 0 ∷ 0 ∷ 0 ∷ 0 ∷ 0 ∷ 0 ∷ 0 ∷ 0 ∷ 0 ∷ 0 ∷ 0 ∷ 0 ∷ 0
      ∷ 0 ∷ 0 ∷ 0 ∷ 0 ∷ 0 ∷ 0 ∷ 0 ∷ 0 ∷ 0 ∷ 0 ∷ 255 ∷ 255 ∷ 255 ∷ 255 ∷ []
  -- After the root has gone: the joined page is given back first, the old root last, and is the first free page.
  pub free_bytes : part collapsed_again 0 36 ≡ 4 ∷ 0 ∷ 0 ∷ 0 ∷ 1 ∷ 0 ∷ 0 ∷ 0 ∷ 1 ∷ 0 ∷ 0 ∷ 0 ∷ 3 ∷ 0 ∷ 0 ∷ 0 ∷ 2 ∷ 0 ∷ 0 ∷ 0 ∷ 4 ∷ 0
      ∷ 0 ∷ 0 ∷ 1 ∷ 0 ∷ 0 ∷ 0 ∷ 0 ∷ 0 ∷ 0 ∷ 0 ∷ 3 ∷ 0 ∷ 0 ∷ 0 ∷ []
  pub free_page : part collapsed_again (112 * 3) 9 ≡ 255 ∷ 0 ∷ 0 ∷ 0 ∷ 2 ∷ 0 ∷ 0 ∷ 0 ∷ 255 ∷ []
  pub free_last : part collapsed_again (112 * 2) 9 ≡ 255 ∷ 0 ∷ 0 ∷ 0 ∷ 0 ∷ 0 ∷ 0 ∷ 0 ∷ 255 ∷ []
  -- Pages are taken from the front of the chain.
  pub chain_first : head 2 again ≡
      record { pages = 6; height = 2; root = 2; free = 0; chain = 0; mark = 4; kind = 1; window = 0; changes = 4; capacity = 4 }
  pub chain_root : entries_of 2 (page_at 2 again 2) ≡ entry 0 none 1 ∷ entry 15 none 3 ∷ []
  -- Absolute sums add up along the path; and every entry of a page that is met is asked.
  pub path_bound : index_instant 0 (patch grown_root (3 * 112 + 48) (i64_bytes (pos 2000000))) ≡ no_instant 21 2
  pub path_within : index_instant 0 (patch grown_root (3 * 112 + 48) (i64_bytes (pos 1999999))) ≡
      record { status = 0; pair = pair (pos 1999999) (pos 0); start = 0; end = 10; pages = 2 }
  pub other_entry : index_instant 5 (patch one_booking (512 + 32 + 96 + 16) (i64_bytes (pos 1000001))) ≡
      no_instant 21 1
  -- A page split below the root: the parent gains an entry with the same pair.
  pub parent_pair_3 : entries_of 2 (page_at 2 split_below 3) ≡ entry 0 (pair (negsuc 1) (negsuc 0)) 1
      ∷ entry 4 (pair (negsuc 1) (negsuc 0)) 4 ∷ entry 10 (pair (pos 0) (pos 0)) 2 ∷ []
  pub parent_pair_4 : entries_of 2 (page_at 2 split_below 4) ≡ entry 4 (pair (pos 6) (pos 3)) 0 ∷ entry 6 (pair (pos 8) (pos 5)) 0
      ∷ entry 8 (pair (pos 6) (pos 4)) 0 ∷ []
  -- There the pair at 8 is that of page 4's last entry, combined with the one above it, which ends where the next one of the root starts.
  pub pairs_combined : index_instant 8 split_below ≡ record { status = 0; pair = pair (pos 4) (pos 3); start = 8; end = 10; pages = 2 }
  -- A left neighbour gives its last entry: both parent pairs are pushed down, and the right start follows.
  pub redistribute_left_3 : entries_of 2 (page_at 2 redistributed_left 3) ≡
      entry 0 (pair (pos 0) (pos 0)) 1 ∷ entry 5 (pair (pos 0) (pos 0)) 2 ∷ entry 11 (pair (pos 0) (pos 0)) 4 ∷ []
  pub redistribute_left_1 : entries_of 2 (page_at 2 redistributed_left 1) ≡
      entry 0 (pair (pos 0) (pos 0)) 0 ∷ entry 3 (pair (pos 3) (pos 2)) 0 ∷ []
  pub redistribute_left_2 : entries_of 2 (page_at 2 redistributed_left 2) ≡
      entry 5 (pair (pos 4) (pos 3)) 0 ∷ entry 6 (pair (pos 3) (pos 2)) 0 ∷ []
  -- A right neighbour gives its first entry, both parent pairs are pushed down, and its start follows; or it joins.
  pub given_right_3 : entries_of 2 (page_at 2 given_right 3) ≡ entry 0 none 1 ∷ entry 9 none 2 ∷ []
  pub given_right_1 : entries_of 2 (page_at 2 given_right 1) ≡ entry 0 (pair (pos 1) (pos 1)) 0 ∷ entry 8 (pair (pos 3) (pos 2)) 0 ∷ []
  pub redistribute_right_1 : entries_of 2 (page_at 2 redistributed_right 1) ≡ entry 0 (pair (pos 1) (pos 1)) 0 ∷ entry 10 none 0 ∷ []
  -- Two pages join in the left one.
  pub merge_right_3 : entries_of 2 (page_at 2 merged_right 3) ≡ entry 0 (pair (pos 0) (pos 0)) 1 ∷ entry 10 (pair (pos 0) (pos 0)) 4 ∷ []
  pub merge_right_1 : entries_of 2 (page_at 2 merged_right 1) ≡ entry 0 (pair (pos 0) (pos 0)) 0 ∷ entry 7 (pair (pos 2) (pos 2)) 0
      ∷ entry 9 (pair (pos 4) (pos 3)) 0 ∷ []
  -- The program on document 01's example, on fewer pages: "runs 6" and the six.
  pub the_example :
      program half 2
      (43 ∷ 32 ∷ 54 ∷ 32 ∷ 49 ∷ 48 ∷ 32 ∷ 52 ∷ 48 ∷ 10 ∷ 43 ∷ 32 ∷ 51 ∷ 32 ∷ 50 ∷ 48 ∷ 32 ∷ 53 ∷ 48 ∷ 10 ∷ 43 ∷ 32 ∷ 53 ∷ 32 ∷ 50
      ∷ 48 ∷ 32 ∷ 50 ∷ 53 ∷ 10 ∷ [])
      ≡ 114 ∷ 117 ∷ 110 ∷ 115 ∷ 32 ∷ 54 ∷ 10 ∷ 48 ∷ 32 ∷ 49 ∷ 48 ∷ 32 ∷ 48 ∷ 32 ∷ 48 ∷ 32 ∷ 45 ∷ 10 ∷ 49 ∷ 48 ∷ 32 ∷ 50 ∷ 48 ∷ 32
      ∷ 54 ∷ 32 ∷ 49 ∷ 32 ∷ 54 ∷ 46 ∷ 48 ∷ 48 ∷ 10 ∷ 50 ∷ 48 ∷ 32 ∷ 50 ∷ 53 ∷ 32 ∷ 49 ∷ 52 ∷ 32 ∷ 51 ∷ 32 ∷ 52 ∷ 46 ∷ 54 ∷ 55
      ∷ 10 ∷ 50 ∷ 53 ∷ 32 ∷ 52 ∷ 48 ∷ 32 ∷ 57 ∷ 32 ∷ 50 ∷ 32 ∷ 52 ∷ 46 ∷ 53 ∷ 48 ∷ 10 ∷ 52 ∷ 48 ∷ 32 ∷ 53 ∷ 48 ∷ 32 ∷ 51 ∷ 32
      ∷ 49 ∷ 32 ∷ 51 ∷ 46 ∷ 48 ∷ 48 ∷ 10 ∷ 53 ∷ 48 ∷ 32 ∷ 52 ∷ 50 ∷ 57 ∷ 52 ∷ 57 ∷ 54 ∷ 55 ∷ 50 ∷ 57 ∷ 53 ∷ 32 ∷ 48 ∷ 32 ∷ 48
      ∷ 32 ∷ 45 ∷ 10 ∷ []
  -- Lines that are refused and lines that are unread, and a last line without its newline.
  pub other_lines :
      program half 2
      (43 ∷ 32 ∷ 45 ∷ 49 ∷ 32 ∷ 48 ∷ 32 ∷ 57 ∷ 10 ∷ 43 ∷ 49 ∷ 32 ∷ 48 ∷ 32 ∷ 57 ∷ 10 ∷ 10 ∷ 43 ∷ 32 ∷ 49 ∷ 32 ∷ 53 ∷ 32 ∷ 53 ∷ 10
      ∷ 43 ∷ 32 ∷ 49 ∷ 48 ∷ 48 ∷ 48 ∷ 48 ∷ 48 ∷ 49 ∷ 32 ∷ 52 ∷ 32 ∷ 53 ∷ 10 ∷ 43 ∷ 32 ∷ 49 ∷ 32 ∷ 48 ∷ 32 ∷ 52 ∷ 50 ∷ 57 ∷ 52
      ∷ 57 ∷ 54 ∷ 55 ∷ 50 ∷ 57 ∷ 54 ∷ 10 ∷ 45 ∷ 32 ∷ 51 ∷ 32 ∷ 57 ∷ 32 ∷ 49 ∷ 48 ∷ [])
      ≡ 108 ∷ 105 ∷ 110 ∷ 101 ∷ 32 ∷ 50 ∷ 32 ∷ 117 ∷ 110 ∷ 114 ∷ 101 ∷ 97 ∷ 100 ∷ 10 ∷ 108 ∷ 105 ∷ 110 ∷ 101 ∷ 32 ∷ 51 ∷ 32 ∷ 117
      ∷ 110 ∷ 114 ∷ 101 ∷ 97 ∷ 100 ∷ 10 ∷ 108 ∷ 105 ∷ 110 ∷ 101 ∷ 32 ∷ 52 ∷ 32 ∷ 114 ∷ 101 ∷ 102 ∷ 117 ∷ 115 ∷ 101 ∷ 100 ∷ 32
      ∷ 49 ∷ 49 ∷ 10 ∷ 108 ∷ 105 ∷ 110 ∷ 101 ∷ 32 ∷ 53 ∷ 32 ∷ 114 ∷ 101 ∷ 102 ∷ 117 ∷ 115 ∷ 101 ∷ 100 ∷ 32 ∷ 49 ∷ 51 ∷ 10 ∷ 108
      ∷ 105 ∷ 110 ∷ 101 ∷ 32 ∷ 54 ∷ 32 ∷ 117 ∷ 110 ∷ 114 ∷ 101 ∷ 97 ∷ 100 ∷ 10 ∷ 114 ∷ 117 ∷ 110 ∷ 115 ∷ 32 ∷ 51 ∷ 10 ∷ 48 ∷ 32
      ∷ 57 ∷ 32 ∷ 45 ∷ 49 ∷ 32 ∷ 49 ∷ 32 ∷ 45 ∷ 49 ∷ 46 ∷ 48 ∷ 48 ∷ 10 ∷ 57 ∷ 32 ∷ 49 ∷ 48 ∷ 32 ∷ 45 ∷ 51 ∷ 32 ∷ 45 ∷ 49 ∷ 32
      ∷ 45 ∷ 10 ∷ 49 ∷ 48 ∷ 32 ∷ 52 ∷ 50 ∷ 57 ∷ 52 ∷ 57 ∷ 54 ∷ 55 ∷ 50 ∷ 57 ∷ 53 ∷ 32 ∷ 48 ∷ 32 ∷ 48 ∷ 32 ∷ 45 ∷ 10 ∷ []
