-- Cases of a rebuild that compute, worked out by hand, on pages of four entries (half of which is 2). Assumes nothing.
use Rattle.std.specs.Prelude.{ℕ, ◌*◌, ◌+◌, ◌≡◌, true, false, cond, List, [], ◌∷◌, ◌++◌, map, replicate, pos, negsuc, eqb}
use Rattle.rule.specs.declared.Pair.{Pair}
use Rattle.rule.specs.Pairs.{pair, none}
use Rattle.fields.specs.Bytes.{patch}
use Rattle.page.specs.Entries.{entry}
use Rattle.page.specs.Layout.{head_of, entries_of}
use Rattle.image.specs.Images.{Cell, tree, free, never_used, page_at, image_bytes}
use Rattle.image.specs.Sound.{sound_before, sound}
use Rattle.image.specs.Listing.{run}
use Rattle.calls.specs.Calls.{Rebuilt, full_runs}
use Rattle.calls.specs.Changes.{entering}
use Rattle.calls.specs.Index.{index_format, format_before, index_book, index_instant, index_listing, index_audit, index_rebuild}
use Rattle.calls.specs.Index.{index_rebuild_bytewise}

-- A worn image of seven pages, of kind 1, window 7, after 9 changes: two leaves below the root on page 3, pages 5 and 4 in the chain. With
-- the pair named at 15 the totals of its leaf entries are (0, 0), (6, 2), that pair, (6, 1) and (0, 0).
unfoldable pub worn_cell : Pair → ℕ → Cell
worn_cell at_15 p =
    cond (eqb p 1) (tree 0 (entry 0 (pair (negsuc 4) (negsuc 0)) 0 ∷ entry 10 (pair (pos 1) (pos 1)) 0 ∷ []))
    (cond (eqb p 2) (tree 0 (entry 15 at_15 0 ∷ entry 20 (pair (pos 6) (pos 1)) 0 ∷ entry 25 none 0 ∷ []))
    (cond (eqb p 3) (tree 1 (entry 0 (pair (pos 5) (pos 1)) 1 ∷ entry 15 none 2 ∷ []))
    (cond (eqb p 4) (free 0)
    (cond (eqb p 5) (free 4) never_used))))

unfoldable pub worn_by : Pair → List ℕ
worn_by at_15 =
    image_bytes 2
    (record {
      head =
          record {
            pages = 7;
            height = 2;
            root = 3;
            free = 5;
            chain = 2;
            mark = 6;
            kind = 1;
            window = 7;
            changes = 9;
            capacity = 4;
          };
      page = worn_cell at_15;
    })

-- four runs: the totals at 10 and at 15 are the same; those at 15 and at 20 have the same sum, and other counts
unfoldable pub worn : List ℕ
worn = worn_by (pair (pos 6) (pos 2))

-- five runs
unfoldable pub worn_five : List ℕ
worn_five = worn_by (pair (pos 7) (pos 2))

-- page 1 hurt: it says that it has five entries
unfoldable pub hurt : List ℕ
hurt = patch worn (112 + 4) (5 ∷ [])

-- so many pages of some other content
unfoldable pub target : ℕ → List ℕ
target n = replicate (112 * n) 9

-- with a scratch of two bytes: what is refused leaves the target, and of the scratch the byte named
abbrev pub rebuilds : List ℕ → List ℕ → Rebuilt
rebuilds source into = index_rebuild source into (7 ∷ 7 ∷ [])

abbrev pub refused : ℕ → List ℕ → ℕ → Rebuilt
refused number into byte = record { status = number; target = into; scratch = byte ∷ 7 ∷ [] }

pub record RebuildCases : Type 0 where
  -- The totals at 10 and at 15 are the same where a page ends, as document 01's heal left them: sound by its rule, and not by document 02's,
  -- (iv). "Older images that break this get 21 on change and pass through the rebuild"; an instant and a listing answer.
  pub worn_sound : (sound_before 2 worn ≡ true) × (sound 2 worn ≡ false)
  pub worn_changed : index_book entering (pos 1) 20 30 worn (7 ∷ 7 ∷ []) ≡ record { status = 21; image = worn; scratch = 0 ∷ 7 ∷ [] }
  pub worn_audited : index_audit worn (7 ∷ 7 ∷ []) ≡ record { status = 21; scratch = 0 ∷ 7 ∷ [] }
  pub worn_answers :
      ((index_instant 15 worn).status ≡ 0)
      × ((index_instant 15 worn).pair ≡ pair (pos 6) (pos 2))
      × ((index_listing 5 12 worn (replicate 32 0)).runs ≡ 2)
  pub worn_mended : sound 2 (rebuilds worn (target 2)).target ≡ true
  pub five_sound : (sound_before 2 worn_five ≡ true) × (sound 2 worn_five ≡ true)
  pub worn_runs :
      full_runs 2 worn ≡ run 0 none ∷ run 10 (pair (pos 6) (pos 2)) ∷ run 20 (pair (pos 6) (pos 1)) ∷ run 25 none ∷ []
  -- Four runs fill one page, so two pages are enough: n is the target's, kind, window and changes are the source's.
  pub worn_status : ((rebuilds worn (target 2)).status ≡ 0) × ((rebuilds worn (target 2)).scratch ≡ 0 ∷ 7 ∷ [])
  pub worn_head :
      head_of (page_at 2 (rebuilds worn (target 2)).target 0)
      ≡ record {
        pages = 2;
        height = 1;
        root = 1;
        free = 0;
        chain = 0;
        mark = 2;
        kind = 1;
        window = 7;
        changes = 9;
        capacity = 4;
      }
  pub worn_leaf :
      entries_of 2 (page_at 2 (rebuilds worn (target 2)).target 1)
      ≡ entry 0 none 0 ∷ entry 10 (pair (pos 6) (pos 2)) 0 ∷ entry 20 (pair (pos 6) (pos 1)) 0 ∷ entry 25 none 0 ∷ []
  -- Nine pages for a source of seven: the pages behind the root are all FF, and the scratch is that of the source's pages.
  pub worn_longer :
      (page_at 2 (rebuilds worn (target 9)).target 2 ≡ replicate 112 255)
      × (page_at 2 (rebuilds worn (target 9)).target 8 ≡ replicate 112 255)
      × ((rebuilds worn (target 9)).scratch ≡ 0 ∷ 7 ∷ [])
  -- "24 if n is too small": five runs take three pages and the head
  pub small : map (λ n. (rebuilds worn_five (target n)).status) (2 ∷ 3 ∷ 4 ∷ 5 ∷ []) ≡ 24 ∷ 24 ∷ 0 ∷ 0 ∷ []
  pub small_leaves : rebuilds worn_five (target 3) ≡ refused 24 (target 3) 0
  -- "then 16 of the target (scratch 0)", behind 21 of the source and ahead of 24; nothing in the target is read
  pub target_16 : rebuilds worn_five (target 2 ++ (9 ∷ [])) ≡ refused 16 (target 2 ++ (9 ∷ [])) 0
  pub target_empty : rebuilds worn [] ≡ refused 16 [] 0
  pub source_21 : rebuilds hurt (target 2 ++ (9 ∷ [])) ≡ refused 21 (target 2 ++ (9 ∷ [])) 0
  pub target_unread : (rebuilds worn (patch (target 2) 36 (5 ∷ 0 ∷ 0 ∷ 0 ∷ []))).status ≡ 0
  -- 17, 16 and a bad capacity of the source, and one too short to name any: the scratch is untouched
  pub source_17 : index_rebuild worn (target 2) [] ≡ record { status = 17; target = target 2; scratch = [] }
  pub source_17_kept :
      index_rebuild (index_format 1 0 4 (replicate (112 * 9) 0)).image [] (7 ∷ [])
      ≡ record { status = 17; target = []; scratch = 7 ∷ [] }
  pub source_none : rebuilds [] (target 2) ≡ refused 16 (target 2) 7
  pub source_16 : rebuilds (worn ++ (255 ∷ [])) [] ≡ refused 16 [] 7
  pub bad_capacity : rebuilds (patch worn 36 (5 ∷ [])) [] ≡ refused 21 [] 7
  -- a byte of scratch for each page, as before (vi), is more than there is
  pub bytewise : (index_rebuild_bytewise worn (target 2) (7 ∷ 7 ∷ [])).status ≡ 17
  -- "A rebuild keeps K .. and writes the field": of an image without the field it is the fresh one of 24 entries
  pub before :
      (rebuilds (format_before 1 0 (replicate 1024 0)).image (replicate 1024 9)).target ≡ (index_format 1 0 24 (replicate 1024 0)).image
  pub before_16 : (rebuilds (format_before 1 0 (replicate 1024 0)).image (target 2)).status ≡ 16
