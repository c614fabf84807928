-- Cases of the tight image that compute, worked out from document 02's words by hand: on pages of four entries (half of which is 2) and of
-- six (half 3). Assumes nothing.
use Rattle.std.specs.Prelude.{ℕ, suc, ◌*◌, ◌≡◌, true, false, List, [], ◌∷◌, map, length, get_or, pos}
use Rattle.lists.specs.Lists.{listed}
use Rattle.rule.specs.Pairs.{pair, none}
use Rattle.page.specs.Entries.{entry}
use Rattle.image.specs.Images.{tree, never_used, image_bytes, fresh}
use Rattle.image.specs.Sound.{sound}
use Rattle.image.specs.Listing.{Run, run, walk_over}
use Rattle.tight.specs.Tight.{page_entries, sizes, tight_cells, tight, too_small}
use Rattle.tight.specs.Counts.{pages_on, runs_walked}

-- m runs: the i-th starts at 10 × i, with a pair of its own
unfoldable pub nth_run : ℕ → Run
nth_run i = run (10 * i) (pair (pos (suc i)) (pos (suc i)))

unfoldable pub runs : ℕ → List Run
runs m = listed m nth_run

-- how many entries each page of a level has
unfoldable pub held : ℕ → ℕ → List ℕ
held m p = listed p (page_entries m p)

-- an image of n pages of four entries with m runs, of kind 1, after 100 changes
unfoldable pub image : ℕ → ℕ → List ℕ
image n m = image_bytes 2 (tight 2 n 1 0 100 (runs m))

pub record TightCases : Type 0 where
  -- "m runs in the fewest pages .. and so at each level up": 1, 4, 5, 9, 16, 17 and 21 runs in pages of four; 36 and 37 in pages of six
  pub levels :
      map (sizes 2) (1 ∷ 4 ∷ 5 ∷ 9 ∷ 16 ∷ 17 ∷ 21 ∷ [])
      ≡ (1 ∷ []) ∷ (1 ∷ []) ∷ (2 ∷ 1 ∷ []) ∷ (3 ∷ 1 ∷ []) ∷ (4 ∷ 1 ∷ []) ∷ (5 ∷ 2 ∷ 1 ∷ []) ∷ (6 ∷ 2 ∷ 1 ∷ []) ∷ []
  -- four levels
  pub sixty_five : (sizes 2 65 ≡ 17 ∷ 5 ∷ 2 ∷ 1 ∷ []) × (length (tight_cells 2 (runs 65)) ≡ 25)
  pub levels_of_six : map (sizes 3) (36 ∷ 37 ∷ []) ≡ (6 ∷ 1 ∷ []) ∷ (7 ∷ 2 ∷ 1 ∷ []) ∷ []
  -- "page sizes differing by at most one, larger first"
  pub larger_first :
      (held 9 3 ≡ 3 ∷ 3 ∷ 3 ∷ [])
      × (held 10 3 ≡ 4 ∷ 3 ∷ 3 ∷ [])
      × (held 11 3 ≡ 4 ∷ 4 ∷ 3 ∷ [])
      × (held 17 5 ≡ 4 ∷ 4 ∷ 3 ∷ 3 ∷ 3 ∷ [])
      × (held 4 1 ≡ 4 ∷ [])
  -- "Leaf pages come first from page 1 in time order, then each level": five runs, in two leaves and a root on page 3
  pub five :
      tight_cells 2 (runs 5)
      ≡ tree 0
      (entry 0 (pair (pos 1) (pos 1)) 0 ∷ entry 10 (pair (pos 2) (pos 2)) 0 ∷ entry 20 (pair (pos 3) (pos 3)) 0 ∷ [])
      ∷ tree 0 (entry 30 (pair (pos 4) (pos 4)) 0 ∷ entry 40 (pair (pos 5) (pos 5)) 0 ∷ [])
      ∷ tree 1 (entry 0 none 1 ∷ entry 30 none 2 ∷ [])
      ∷ []
  -- a page that is exactly full, the root
  pub four :
      tight_cells 2 (runs 4)
      ≡ tree 0
      (entry 0 (pair (pos 1) (pos 1)) 0
      ∷ entry 10 (pair (pos 2) (pos 2)) 0
      ∷ entry 20 (pair (pos 3) (pos 3)) 0
      ∷ entry 30 (pair (pos 4) (pos 4)) 0
      ∷ [])
      ∷ []
  -- seventeen runs: five leaves on pages 1 to 5, of 4, 4, 3, 3 and 3, two pages above them on 6 and 7, and the root on 8
  pub seventeen :
      (get_or (tight_cells 2 (runs 17)) 5 never_used ≡ tree 1 (entry 0 none 1 ∷ entry 40 none 2 ∷ entry 80 none 3 ∷ []))
      × (get_or (tight_cells 2 (runs 17)) 6 never_used ≡ tree 1 (entry 110 none 4 ∷ entry 140 none 5 ∷ []))
      × (get_or (tight_cells 2 (runs 17)) 7 never_used ≡ tree 2 (entry 0 none 6 ∷ entry 110 none 7 ∷ []))
      × (length (tight_cells 2 (runs 17)) ≡ 8)
  -- "the chain is empty, the high mark follows the last page used", which is the root; "kind, window and changes are kept"
  pub head :
      (tight 2 12 2 7 100 (runs 17)).head
      ≡ record {
        pages = 12;
        height = 3;
        root = 8;
        free = 0;
        chain = 0;
        mark = 9;
        kind = 2;
        window = 7;
        changes = 100;
        capacity = 4;
      }
  -- "A rebuild keeps K": six
  pub head_of_six : (tight 3 9 1 0 0 (runs 7)).head.capacity ≡ 6
  -- the root's page, and the one at the high mark
  pub unused :
      ((tight 2 12 2 7 100 (runs 17)).page 8 ≡ tree 2 (entry 0 none 6 ∷ entry 110 none 7 ∷ []))
      × ((tight 2 12 2 7 100 (runs 17)).page 9 ≡ never_used)
  -- one run (0, 0) is the image that a format leaves
  pub one : image_bytes 2 (tight 2 3 1 0 0 (run 0 none ∷ [])) ≡ image_bytes 2 (fresh 3 1 0 4)
  -- "24 if n is too small": at exactly as many pages as it takes, and at one fewer
  pub small : map (λ n. too_small 2 n 17) (8 ∷ 9 ∷ 10 ∷ []) ≡ true ∷ false ∷ false ∷ []
  pub small_at_full : map (λ n. too_small 2 n 4) (1 ∷ 2 ∷ []) ≡ true ∷ false ∷ []
  -- The image is sound, and a walk over all time finds the runs. On each level it has the pages told. Leaf entries are counted as they stand,
  -- also where two neighbours have the same total.
  pub sound_five : (sound 2 (image 4 5) ≡ true) × ((walk_over 2 (image 4 5) 0 4294967295).runs ≡ runs 5)
  pub counted : (listed 3 (pages_on 2 (image 4 5)) ≡ 2 ∷ 1 ∷ 0 ∷ []) × (runs_walked 2 (image 4 5) ≡ 5)
  pub not_joined : runs_walked 2 (image_bytes 2 (tight 2 2 1 0 100 (run 0 none ∷ run 10 none ∷ []))) ≡ 2
