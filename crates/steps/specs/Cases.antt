-- Cases of the five steps that compute, on images of pages of four entries (half of which is 2): the definitions' own test. Assumes
-- nothing.
use Rattle.std.specs.Prelude.{ℕ, ◌≡◌, true, false, List, [], ◌∷◌, ℤ, pos, negsuc}
use Rattle.rule.specs.Pairs.{pair, none, entry_effect, opposite, combine}
use Rattle.rule.specs.Time.{END}
use Rattle.page.specs.Entries.{entry}
use Rattle.image.specs.Images.{Image, free, fresh}
use Rattle.steps.specs.Supply.{entries}
use Rattle.steps.specs.Change.{change, lacks_pages, change_names}

-- value v entered on [s, e) in an image of a kind; in one of totals; and withdrawn there
unfoldable pub enter_in : ℕ → ℤ → ℕ → ℕ → Image → Image
enter_in kind v s e X = change 2 (combine kind) s e (entry_effect v) X

unfoldable pub enter : ℤ → ℕ → ℕ → Image → Image
enter v s e X = enter_in 1 v s e X

unfoldable pub withdraw : ℤ → ℕ → ℕ → Image → Image
withdraw v s e X = change 2 (combine 1) s e (opposite (entry_effect v)) X

-- the pages that the five steps of either name
unfoldable pub enter_names : ℤ → ℕ → ℕ → Image → List ℕ
enter_names v s e X = change_names 2 (combine 1) s e (entry_effect v) X

unfoldable pub withdraw_names : ℤ → ℕ → ℕ → Image → List ℕ
withdraw_names v s e X = change_names 2 (combine 1) s e (opposite (entry_effect v)) X

-- one booking, which leaves three entries; a second one, which splits the leaf; and the second withdrawn
unfoldable pub one : ℕ → Image
one n = enter (pos 1) 10 15 (fresh n 1 0 4)

unfoldable pub grown : Image
grown = enter (pos 1) 20 25 (one 4)

unfoldable pub collapsed : Image
collapsed = withdraw (pos 1) 20 25 grown

-- a page below the root splits
unfoldable pub split_below : Image
split_below =
    enter (pos 2) 4 8 (enter (pos 1) 6 16 (enter (pos 1) 6 9 (withdraw (pos 2) 0 9 (enter (pos 2) 9 10
    (enter (pos 1) 9 20 (enter (pos 2) 0 9 (enter (pos 2) 2 9 (fresh 6 1 0 4))))))))

-- a left sibling gives
unfoldable pub redistributed_left : Image
redistributed_left =
    withdraw (pos 1) 3 7 (enter (pos 1) 5 17 (enter (pos 1) 3 7 (enter (pos 1) 11 23 (enter (pos 1) 3 6
    (enter (pos 2) 3 12 (fresh 6 1 0 4))))))

-- two pages join
unfoldable pub before_merge : Image
before_merge = enter (pos 2) 9 20 (enter (pos 1) 7 12 (enter (pos 2) 6 14 (enter (pos 1) 7 10 (fresh 6 1 0 4))))

unfoldable pub merged : Image
merged = withdraw (pos 2) 6 14 before_merge

-- a leaf that the next cut splits; two leaves, the second of which starts at the end of the first booking
unfoldable pub four_entries : Image
four_entries = enter (pos 1) 0 7 (enter (pos 1) 4 5 (fresh 4 1 0 4))

unfoldable pub end_apart : Image
end_apart = enter (pos 1) 5 8 (enter (pos 1) 2 4 (fresh 4 1 0 4))

-- Pages that will be rebalanced with a sibling that no path leads to: page 2, between pages 1 and 4, with page 1, which can give or not;
-- page 1, the first, with page 4, which can give.
unfoldable pub giver_left : Image
giver_left =
    enter (pos 1) 10 11 (enter (pos 1) 23 24 (enter (pos 1) 17 20 (enter (pos 1) 17 19 (enter (pos 1) 9 20 (fresh 6 1 0 4)))))

unfoldable pub no_giver : Image
no_giver = enter (pos 1) 18 23 (enter (pos 1) 12 19 (enter (pos 1) 5 13 (fresh 6 1 0 4)))

unfoldable pub giver_right : Image
giver_right = enter (pos 1) 7 12 (enter (pos 1) 14 16 (enter (pos 1) 23 25 (enter (pos 1) 24 28 (fresh 6 1 0 4))))

-- three levels: page 2 will join page 1, and then their parent, page 3, is rebalanced with page 7
unfoldable pub three_levels : Image
three_levels =
    enter (pos 1) 13 17 (enter (pos 1) 12 15 (enter (pos 1) 11 END (enter (pos 1) 16 24 (enter (pos 1) 8 9
    (enter (pos 1) 20 23 (fresh 9 1 0 4))))))

-- Document 02, (iv): edges between pages. Page 1 ends with the first booking, page 2 starts at 15, where it ends; then the total from 15
-- on becomes that of the first booking.
unfoldable pub apart : ℕ → Image
apart kind = enter_in kind (pos 2) 20 25 (enter_in kind (pos 1) 20 25 (enter_in kind (pos 1) 14 15 (fresh 6 kind 0 4)))

unfoldable pub edge : ℕ → Image
edge kind = enter_in kind (pos 1) 15 20 (apart kind)

-- in the end the totals on both sides are equal in their sums alone; the own pairs are equal, and only they; the totals are, and only they
unfoldable pub equal_sums : Image
equal_sums = enter (pos 1) 15 20 (enter (pos 0) 15 20 (apart 1))

unfoldable pub equal_pairs : Image
equal_pairs = enter (pos 1) 15 20 (enter (pos 5) 15 END (apart 1))

unfoldable pub equal_totals : Image
equal_totals = enter (pos 1) 15 END (apart 1)

-- Leaves whose edge at 20 will join and leave page 2 short: page 1 can give; it can't, and a third leaf follows. Each has (4, 1) above it.
unfoldable pub edge_giver : Image
edge_giver = enter (pos 4) 0 END (enter (pos 2) 5 14 (edge 1))

unfoldable pub edge_no_giver : Image
edge_no_giver = enter (pos 4) 0 END (enter (pos 1) 40 45 (enter (pos 1) 30 35 (edge 1)))

-- Three levels: the root, page 8, has pages 3 and 7, these have pages 1 and 2, and 4, 5 and 6. Page 8 separates page 4 from page 2,
-- which ends with a booking of value 1.
unfoldable pub spread : Image
spread =
    enter (pos 1) 90 100 (enter (pos 2) 70 80 (enter (pos 1) 50 60 (enter (pos 1) 50 60 (enter (pos 1) 30 40
    (enter (pos 1) 10 20 (fresh 9 1 0 4))))))

-- the edge at 40 joins, and page 4 joins page 5, its right sibling; the edge at 50 joins; page 6 has two entries left, and (4, 1) stands
-- above all
unfoldable pub joined_right : Image
joined_right = enter (pos 1) 40 50 spread

unfoldable pub carried_twice : Image
carried_twice = withdraw (pos 1) 50 60 joined_right

unfoldable pub least_filled : Image
least_filled = enter (pos 4) 0 END (enter (pos 1) 100 END carried_twice)

-- page 5 can give
unfoldable pub edge_giver_right : Image
edge_giver_right = enter (pos 3) 65 70 spread

-- the pairs on both sides of the edge at 40 are equal up to the root's, which has (5, 1) on the right
unfoldable pub equal_below : Image
equal_below = enter (pos 1) 40 50 (enter (pos 5) 40 END spread)

pub record Cases : Type 0 where
  -- A. and B.: the leaf that has 20 keeps two entries, a taken page gets three, and a new root leads to both.
  pub grown_left : entries grown 1 ≡ entry 0 none 0 ∷ entry 10 (pair (pos 1) (pos 1)) 0 ∷ []
  pub grown_right : entries grown 2 ≡ entry 15 none 0 ∷ entry 20 (pair (pos 1) (pos 1)) 0 ∷ entry 25 none 0 ∷ []
  pub grown_root : entries grown 3 ≡ entry 0 none 1 ∷ entry 15 none 2 ∷ []
  pub grown_changes : grown.head.changes ≡ 2
  -- 24: the second booking takes two pages, which three pages don't have and four have.
  pub lacks_two : lacks_pages 2 20 25 (one 3) ≡ true
  pub has_two : lacks_pages 2 20 25 (one 4) ≡ false
  -- D. and E.: the joined page is given back, then the root; the root is the first free page.
  pub collapsed_root : collapsed.head.root ≡ 1
  pub collapsed_free : collapsed.head.free ≡ 3
  pub collapsed_next : collapsed.page 3 ≡ free 2
  pub collapsed_leaf : entries collapsed 1 ≡ entry 0 none 0 ∷ entry 10 (pair (pos 1) (pos 1)) 0 ∷ entry 15 none 0 ∷ []
  -- The parent gains an entry with the same pair.
  pub split_parent :
      entries split_below 3
      ≡ entry 0 (pair (negsuc 1) (negsuc 0)) 1 ∷ entry 4 (pair (negsuc 1) (negsuc 0)) 4 ∷ entry 10 none 2 ∷ []
  pub split_right :
      entries split_below 4
      ≡ entry 4 (pair (pos 6) (pos 3)) 0 ∷ entry 6 (pair (pos 8) (pos 5)) 0 ∷ entry 8 (pair (pos 6) (pos 4)) 0 ∷ []
  -- An entry moves with the parents' pairs, which become (0, 0), and the right start follows.
  pub redistributed_parent : entries redistributed_left 3 ≡ entry 0 none 1 ∷ entry 5 none 2 ∷ entry 11 none 4 ∷ []
  pub redistributed_right : entries redistributed_left 2 ≡ entry 5 (pair (pos 4) (pos 3)) 0 ∷ entry 6 (pair (pos 3) (pos 2)) 0 ∷ []
  -- Both join in the left page, and the parent loses its entry.
  pub merged_parent : entries merged 3 ≡ entry 0 none 1 ∷ entry 10 none 4 ∷ []
  pub merged_left :
      entries merged 1 ≡ entry 0 none 0 ∷ entry 7 (pair (pos 2) (pos 2)) 0 ∷ entry 9 (pair (pos 4) (pos 3)) 0 ∷ []
  -- Equal sums alone don't heal: (0, 1) is not (0, 0).
  pub zero_counts :
      entries (enter (pos 0) 10 40 (fresh 2 1 0 4)) 1
      ≡ entry 0 none 0 ∷ entry 10 (pair (pos 0) (pos 1)) 0 ∷ entry 40 none 0 ∷ []
  -- The pages that the steps name: the head, then those of A, of B, of C's two ways, of D and of E, in this order.
  -- The second booking: the leaf on each way; B takes two pages, of which the second is the new root.
  pub names_taken : enter_names (pos 1) 20 25 (one 4) ≡ 0 ∷ 1 ∷ 1 ∷ 2 ∷ 3 ∷ 3 ∷ 2 ∷ 3 ∷ 2 ∷ 3 ∷ 2 ∷ 3 ∷ 2 ∷ []
  -- The same once both are in the chain, from its front.
  pub names_chain : enter_names (pos 1) 20 25 collapsed ≡ 0 ∷ 1 ∷ 1 ∷ 3 ∷ 2 ∷ 2 ∷ 3 ∷ 2 ∷ 3 ∷ 2 ∷ 3 ∷ 2 ∷ 3 ∷ []
  -- Each way is taken in the image as the step finds it. A splits the leaf, and B finds the new root; D takes the entry that has e'
  -- over from page 2 to page 1, where E finds it.
  pub names_split_first :
      enter_names (pos 1) 12 20 four_entries ≡ 0 ∷ 1 ∷ 2 ∷ 3 ∷ 3 ∷ 2 ∷ 3 ∷ 2 ∷ 3 ∷ 2 ∷ 3 ∷ 2 ∷ 3 ∷ 2 ∷ []
  pub names_moved_end :
      withdraw_names (pos 1) 2 4 end_apart ≡ 0 ∷ 3 ∷ 1 ∷ 3 ∷ 2 ∷ 3 ∷ 1 ∷ 3 ∷ 2 ∷ 3 ∷ 1 ∷ 2 ∷ 3 ∷ 1 ∷ 2 ∷ []
  -- A left sibling gives, in E: page 1, and page 4 on the right is not named.
  pub names_redistributed_left :
      withdraw_names (pos 1) 17 19 giver_left
      ≡ 0 ∷ 3 ∷ 2 ∷ 3 ∷ 2 ∷ 3 ∷ 2 ∷ 3 ∷ 2 ∷ 3 ∷ 2 ∷ 3 ∷ 2 ∷ 1 ∷ []
  pub redistributed_left_before :
      entries giver_left 1
      ≡ entry 0 none 0
      ∷ entry 9 (pair (pos 1) (pos 1)) 0
      ∷ entry 10 (pair (pos 2) (pos 2)) 0
      ∷ entry 11 (pair (pos 1) (pos 1)) 0
      ∷ []
  pub redistributed_left_after :
      entries (withdraw (pos 1) 17 19 giver_left) 1
      ≡ entry 0 none 0 ∷ entry 9 (pair (pos 1) (pos 1)) 0 ∷ entry 10 (pair (pos 2) (pos 2)) 0 ∷ []
  -- A right sibling gives, in E: page 4.
  pub names_redistributed_right :
      withdraw_names (pos 1) 7 12 giver_right
      ≡ 0 ∷ 3 ∷ 1 ∷ 3 ∷ 1 ∷ 3 ∷ 1 ∷ 3 ∷ 1 ∷ 3 ∷ 1 ∷ 3 ∷ 1 ∷ 4 ∷ []
  pub redistributed_right_before :
      entries giver_right 4
      ≡ entry 14 (pair (pos 1) (pos 1)) 0 ∷ entry 16 none 0 ∷ entry 23 (pair (pos 1) (pos 1)) 0 ∷ []
  pub redistributed_right_after :
      entries (withdraw (pos 1) 7 12 giver_right) 4 ≡ entry 16 none 0 ∷ entry 23 (pair (pos 1) (pos 1)) 0 ∷ []
  -- A page joins its right sibling, in D: page 2, which is given back.
  pub names_merged_right :
      withdraw_names (pos 2) 6 14 before_merge
      ≡ 0 ∷ 3 ∷ 1 ∷ 3 ∷ 4 ∷ 3 ∷ 1 ∷ 3 ∷ 4 ∷ 3 ∷ 1 ∷ 2 ∷ 3 ∷ 4 ∷ []
  -- A page joins its left sibling, in D: page 1. END is no instant: page 4, the last one, is not named.
  pub names_merged_left : enter_names (pos 1) 13 END no_giver ≡ 0 ∷ 3 ∷ 2 ∷ 3 ∷ 2 ∷ 3 ∷ 2 ∷ 1 ∷ []
  pub merged_left_after :
      entries (enter (pos 1) 13 END no_giver) 1
      ≡ entry 0 none 0 ∷ entry 5 (pair (pos 1) (pos 1)) 0 ∷ entry 12 (pair (pos 2) (pos 2)) 0 ∷ []
  -- The parent is rebalanced too, with page 7, and gets an entry of it.
  pub names_both_levels :
      withdraw_names (pos 1) 11 END three_levels ≡ 0 ∷ 8 ∷ 3 ∷ 2 ∷ 8 ∷ 3 ∷ 2 ∷ 8 ∷ 3 ∷ 2 ∷ 1 ∷ 7 ∷ []
  pub both_levels_after :
      entries (withdraw (pos 1) 11 END three_levels) 3
      ≡ entry 0 none 1 ∷ entry 12 (pair (negsuc 0) (negsuc 0)) 5 ∷ []
  -- The root goes, page 3, in E: its child, page 1, is the sibling.
  pub names_collapsed :
      withdraw_names (pos 1) 20 25 grown ≡ 0 ∷ 3 ∷ 2 ∷ 3 ∷ 2 ∷ 3 ∷ 2 ∷ 3 ∷ 2 ∷ 3 ∷ 2 ∷ 3 ∷ 2 ∷ 1 ∷ []
  -- An effect up to END: B, C's right end and E name no page.
  pub names_to_end : enter_names (pos 1) 5 END grown ≡ 0 ∷ 3 ∷ 1 ∷ 3 ∷ 1 ∷ 3 ∷ 1 ∷ []
  -- END starts no entry: a heal there leaves the last one, though for kind 2 it may have the pair of the one before.
  pub kept_at_end :
      entries (enter_in 2 (pos 3) 0 END (enter_in 2 (pos 1) 5 END (fresh 2 2 0 4))) 1
      ≡ entry 0 (pair (pos 3) (pos 1)) 0 ∷ entry 5 (pair (pos 3) (pos 1)) 0 ∷ []
  -- Document 02, (iv): "the entry goes, and the new first start is carried up to the parent entry that separates the two pages". Page 1
  -- keeps its pairs; page 2 and its entry in the root start at 20; the step names the way to 15, and not page 1, on the way to 14.
  pub edge_left : entries (edge 1) 1 ≡ entry 0 none 0 ∷ entry 14 (pair (pos 1) (pos 1)) 0 ∷ []
  pub edge_right : entries (edge 1) 2 ≡ entry 20 (pair (pos 3) (pos 2)) 0 ∷ entry 25 none 0 ∷ []
  pub edge_root : entries (edge 1) 3 ≡ entry 0 none 1 ∷ entry 20 none 2 ∷ []
  pub names_edge : enter_names (pos 1) 15 20 (apart 1) ≡ 0 ∷ 3 ∷ 2 ∷ 3 ∷ 2 ∷ 3 ∷ 2 ∷ 3 ∷ 2 ∷ 3 ∷ 2 ∷ 3 ∷ 2 ∷ []
  -- "For kind 1": the same bookings of kinds 2 and 3 leave the entry at 15, with the pair of the one before.
  pub edge_of_greatest :
      entries (edge 2) 2
      ≡ entry 15 (pair (pos 1) (pos 1)) 0 ∷ entry 20 (pair (pos 2) (pos 1)) 0 ∷ entry 25 none 0 ∷ []
  pub edge_of_greatest_root : entries (edge 2) 3 ≡ entry 0 none 1 ∷ entry 15 none 2 ∷ []
  pub edge_of_least : entries (edge 3) 2 ≡ entry 15 (pair (pos 1) (pos 1)) 0 ∷ entry 25 none 0 ∷ []
  -- Equal sums with different counts stay apart: (1, 2) at 15 is not (1, 1).
  pub equal_sums_stay :
      entries equal_sums 2
      ≡ entry 15 (pair (pos 1) (pos 2)) 0 ∷ entry 20 (pair (pos 3) (pos 2)) 0 ∷ entry 25 none 0 ∷ []
  -- So do equal pairs under different ones: the entry at 15 has the pair of the one before, and (5, 1) above it; that at 40 two levels up.
  pub equal_pairs_stay :
      entries equal_pairs 2
      ≡ entry 15 (pair (pos 1) (pos 1)) 0 ∷ entry 20 (pair (pos 3) (pos 2)) 0 ∷ entry 25 none 0 ∷ []
  pub equal_pairs_root : entries equal_pairs 3 ≡ entry 0 none 1 ∷ entry 15 (pair (pos 5) (pos 1)) 2 ∷ []
  pub equal_below_stay : entries equal_below 4 ≡ entry 40 (pair (pos 1) (pos 1)) 0 ∷ entry 50 (pair (pos 2) (pos 2)) 0 ∷ []
  pub equal_below_root : entries equal_below 8 ≡ entry 0 none 3 ∷ entry 40 (pair (pos 5) (pos 1)) 7 ∷ []
  -- Equal totals go, here (1, 1) alone and (0, 0) under (1, 1). The pair before the edge stays, and so does the one above page 2.
  pub equal_totals_left : entries equal_totals 1 ≡ entry 0 none 0 ∷ entry 14 (pair (pos 1) (pos 1)) 0 ∷ []
  pub equal_totals_right : entries equal_totals 2 ≡ entry 20 (pair (pos 3) (pos 2)) 0 ∷ entry 25 none 0 ∷ []
  pub equal_totals_root : entries equal_totals 3 ≡ entry 0 none 1 ∷ entry 20 (pair (pos 1) (pos 1)) 2 ∷ []
  -- Nothing stands before 0: a heal there leaves its entry.
  pub edge_at_zero : entries (enter (pos 2) 0 14 (edge 1)) 1 ≡ entry 0 (pair (pos 2) (pos 1)) 0 ∷ entry 14 (pair (pos 1) (pos 1)) 0 ∷ []
  -- The page left short turns left, to page 1, which gives its last entry: page 2 starts there. Both have what was above them.
  pub edge_gives_left :
      entries (withdraw (pos 2) 20 25 edge_giver) 1
      ≡ entry 0 (pair (pos 4) (pos 1)) 0 ∷ entry 5 (pair (pos 6) (pos 2)) 0 ∷ []
  pub edge_gives_right :
      entries (withdraw (pos 2) 20 25 edge_giver) 2
      ≡ entry 14 (pair (pos 5) (pos 2)) 0 ∷ entry 25 (pair (pos 4) (pos 1)) 0 ∷ []
  pub edge_gives_root : entries (withdraw (pos 2) 20 25 edge_giver) 3 ≡ entry 0 none 1 ∷ entry 14 none 2 ∷ []
  pub names_edge_gives :
      withdraw_names (pos 2) 20 25 edge_giver ≡ 0 ∷ 3 ∷ 2 ∷ 3 ∷ 2 ∷ 3 ∷ 2 ∷ 3 ∷ 2 ∷ 3 ∷ 2 ∷ 1 ∷ 3 ∷ 2 ∷ []
  -- Or joins it: page 2 is given back, and its entry in the root goes.
  pub edge_joins_left :
      entries (withdraw (pos 2) 20 25 edge_no_giver) 1
      ≡ entry 0 (pair (pos 4) (pos 1)) 0 ∷ entry 14 (pair (pos 5) (pos 2)) 0 ∷ entry 25 (pair (pos 4) (pos 1)) 0 ∷ []
  pub edge_joins_root : entries (withdraw (pos 2) 20 25 edge_no_giver) 3 ≡ entry 0 none 1 ∷ entry 30 (pair (pos 4) (pos 1)) 4 ∷ []
  pub edge_joins_free : (withdraw (pos 2) 20 25 edge_no_giver).head.free ≡ 2
  pub names_edge_joins :
      withdraw_names (pos 2) 20 25 edge_no_giver ≡ 0 ∷ 3 ∷ 2 ∷ 3 ∷ 2 ∷ 3 ∷ 2 ∷ 3 ∷ 2 ∷ 3 ∷ 2 ∷ 1 ∷ 3 ∷ 1 ∷ []
  -- With no third leaf the root goes too, after page 2.
  pub edge_collapses_leaf :
      entries (withdraw (pos 2) 20 25 (edge 1)) 1
      ≡ entry 0 none 0 ∷ entry 14 (pair (pos 1) (pos 1)) 0 ∷ entry 25 none 0 ∷ []
  pub edge_collapses_height : (withdraw (pos 2) 20 25 (edge 1)).head.height ≡ 1
  pub edge_collapses_free : (withdraw (pos 2) 20 25 (edge 1)).head.free ≡ 3
  pub names_edge_collapses :
      withdraw_names (pos 2) 20 25 (edge 1) ≡ 0 ∷ 3 ∷ 2 ∷ 3 ∷ 2 ∷ 3 ∷ 2 ∷ 3 ∷ 2 ∷ 3 ∷ 2 ∷ 1 ∷ 1 ∷ []
  -- An edge under a page other than the root, between pages 5 and 6 under page 7: the root keeps its starts.
  pub edge_below : entries (enter (pos 2) 80 90 spread) 7 ≡ entry 40 none 4 ∷ entry 60 none 5 ∷ entry 90 none 6 ∷ []
  pub edge_below_leaf : entries (enter (pos 2) 80 90 spread) 6 ≡ entry 90 (pair (pos 1) (pos 1)) 0 ∷ entry 100 none 0 ∷ []
  pub edge_below_root : entries (enter (pos 2) 80 90 spread) 8 ≡ entry 0 none 3 ∷ entry 40 none 7 ∷ []
  -- The root separates the two pages: each start on the way is carried, that of the leaf's parent and that of the root. The way to 49, by
  -- pages 3 and 2, is not named.
  pub carried_leaf : entries carried_twice 4 ≡ entry 60 none 0 ∷ entry 70 (pair (pos 2) (pos 1)) 0 ∷ []
  pub carried_parent : entries carried_twice 7 ≡ entry 60 none 4 ∷ entry 80 none 6 ∷ []
  pub carried_root : entries carried_twice 8 ≡ entry 0 none 3 ∷ entry 60 none 7 ∷ []
  pub names_carried :
      withdraw_names (pos 1) 50 60 joined_right
      ≡ 0 ∷ 8 ∷ 7 ∷ 4 ∷ 8 ∷ 7 ∷ 4 ∷ 8 ∷ 7 ∷ 4 ∷ 8 ∷ 7 ∷ 4 ∷ 8 ∷ 7 ∷ 4 ∷ 8 ∷ 7 ∷ 4 ∷ []
  -- Below that root the page left short is the first under its parent and turns right: page 5 gives, or page 4 joins it.
  pub edge_gives_back : entries (enter (pos 1) 40 50 edge_giver_right) 4 ≡ entry 50 (pair (pos 2) (pos 2)) 0 ∷ entry 60 none 0 ∷ []
  pub edge_gives_parent :
      entries (enter (pos 1) 40 50 edge_giver_right) 7 ≡ entry 50 none 4 ∷ entry 65 none 5 ∷ entry 80 none 6 ∷ []
  pub names_edge_gives_back :
      enter_names (pos 1) 40 50 edge_giver_right
      ≡ 0 ∷ 8 ∷ 7 ∷ 4 ∷ 8 ∷ 7 ∷ 4 ∷ 8 ∷ 7 ∷ 4 ∷ 8 ∷ 7 ∷ 4 ∷ 8 ∷ 7 ∷ 4 ∷ 5 ∷ 8 ∷ 7 ∷ 4 ∷ []
  pub edge_joins_back :
      entries joined_right 4
      ≡ entry 50 (pair (pos 2) (pos 2)) 0 ∷ entry 60 none 0 ∷ entry 70 (pair (pos 2) (pos 1)) 0 ∷ []
  pub edge_joins_parent : entries joined_right 7 ≡ entry 50 none 4 ∷ entry 80 none 6 ∷ []
  pub edge_joins_top : entries joined_right 8 ≡ entry 0 none 3 ∷ entry 50 none 7 ∷ []
  pub names_edge_joins_back :
      enter_names (pos 1) 40 50 spread
      ≡ 0 ∷ 8 ∷ 7 ∷ 4 ∷ 8 ∷ 7 ∷ 4 ∷ 8 ∷ 7 ∷ 4 ∷ 8 ∷ 7 ∷ 4 ∷ 8 ∷ 7 ∷ 4 ∷ 5 ∷ 8 ∷ 7 ∷ 4 ∷ []
  -- The same edge at the end of a change, in E.
  pub edge_at_end : entries (withdraw (pos 1) 35 40 spread) 8 ≡ entry 0 none 3 ∷ entry 50 none 7 ∷ []
  pub names_edge_at_end :
      withdraw_names (pos 1) 35 40 spread
      ≡ 0 ∷ 8 ∷ 3 ∷ 2 ∷ 8 ∷ 7 ∷ 4 ∷ 8 ∷ 3 ∷ 2 ∷ 8 ∷ 7 ∷ 4 ∷ 8 ∷ 3 ∷ 2 ∷ 8 ∷ 7 ∷ 4 ∷ 5 ∷ []
  -- And all of it at once: page 4 joins page 6 on its right, page 7 joins page 3 on its left, the root goes. Of the way to 59 page 3 is
  -- turned to and named, page 2 is not.
  pub edge_all_root :
      entries (enter (pos 1) 60 70 least_filled) 3
      ≡ entry 0 (pair (pos 4) (pos 1)) 1 ∷ entry 20 (pair (pos 4) (pos 1)) 2 ∷ entry 70 (pair (pos 4) (pos 1)) 4 ∷ []
  pub edge_all_leaf :
      entries (enter (pos 1) 60 70 least_filled) 4
      ≡ entry 70 (pair (pos 2) (pos 1)) 0 ∷ entry 80 none 0 ∷ entry 90 (pair (pos 1) (pos 1)) 0 ∷ []
  pub edge_all_free : (enter (pos 1) 60 70 least_filled).head.free ≡ 8
  pub names_edge_all :
      enter_names (pos 1) 60 70 least_filled
      ≡ 0 ∷ 8 ∷ 7 ∷ 4 ∷ 8 ∷ 7 ∷ 4 ∷ 8 ∷ 7 ∷ 4 ∷ 8 ∷ 7 ∷ 4 ∷ 8 ∷ 7 ∷ 4 ∷ 6 ∷ 3 ∷ 3 ∷ 4 ∷ []
