-- Cases of the looks of a walk, of the start and the end that an instant tells, and of runs and leaf entries that differ from their
-- neighbours, that compute, on pages of four entries (half of which is 2). Assumes nothing.
use Rattle.std.specs.Prelude.{ℕ, ◌*◌, ◌+◌, ◌≡◌, Bool, true, false, cond, List, [], ◌∷◌, map, pos, eqb}
use Rattle.rule.specs.Time.{END}
use Rattle.rule.specs.declared.Pair.{Pair}
use Rattle.rule.specs.Pairs.{pair, none, same_pair}
use Rattle.fields.specs.Bytes.{patch}
use Rattle.page.specs.declared.Entry.{Entry}
use Rattle.page.specs.Entries.{entry}
use Rattle.page.specs.Layout.{head_of}
use Rattle.page.specs.Fit.{root_context}
use Rattle.image.specs.Images.{Cell, tree, free, never_used, page_at, image_bytes}
use Rattle.image.specs.Sound.{sound_before, sound}
use Rattle.image.specs.Instant.{look_by, look_up}
use Rattle.image.specs.Descent.{Associative, descend}
use Rattle.image.specs.Listing.{run, neighbours_differ}
use Rattle.image.specs.Neighbours.{neighbours_apart, leaf_entries}
use Rattle.image.specs.Trail.{visits, every_entry, instant_trail, listing_trail, audit_trail}
use Rattle.image.specs.Looks.{pages_of, found_fit, audit_looks}

-- The leaf on page 1 is fit for the span [0, 15), the one on page 2 for [15, 30) and for [15, END). Page 3 is the root, with the
-- entries named. Pages 4 and 5 are free, 5 leads to 4. No two neighbours in the leaves have the same pair.
unfoldable pub cell : List Entry → ℕ → Cell
cell root p =
    cond (eqb p 1) (tree 0 (entry 0 none 0 ∷ entry 10 (pair (pos 1) (pos 1)) 0 ∷ []))
    (cond (eqb p 2) (tree 0 (entry 15 none 0 ∷ entry 20 (pair (pos 1) (pos 1)) 0 ∷ entry 25 none 0 ∷ []))
    (cond (eqb p 3) (tree 1 root)
    (cond (eqb p 4) (free 0)
    (cond (eqb p 5) (free 4) never_used))))

-- n pages with these, and a head that names the first free page, the chain's length and the high mark
unfoldable pub pages : ℕ → ℕ → ℕ → ℕ → List Entry → List ℕ
pages n first chain mark root =
    image_bytes 2
    (record {
      head =
          record {
            pages = n;
            height = 2;
            root = 3;
            free = first;
            chain = chain;
            mark = mark;
            kind = 1;
            window = 0;
            changes = 1;
            capacity = 4;
          };
      page = cell root;
    })

-- the root's entries: one for each leaf
unfoldable pub both : List Entry
both = entry 0 none 1 ∷ entry 15 none 2 ∷ []

-- a sound image: the tree, the chain, and page 6, which was never used
unfoldable pub whole : List ℕ
whole = pages 7 5 2 6 both

-- page p of an image with one of its 24 unused bytes not FF
unfoldable pub hurt : ℕ → List ℕ → List ℕ
hurt p img = patch img (112 * p + 8) (0 ∷ [])

-- Height 3: leaves from 0, 10, 20 and 30 on, of two entries each, on pages 1 to 4; over them pages 5 and 6, and the root, page 7.
unfoldable pub tall_cell : ℕ → Cell
tall_cell p =
    cond (eqb p 1) (tree 0 (entry 0 none 0 ∷ entry 5 none 0 ∷ []))
    (cond (eqb p 2) (tree 0 (entry 10 none 0 ∷ entry 15 none 0 ∷ []))
    (cond (eqb p 3) (tree 0 (entry 20 none 0 ∷ entry 25 none 0 ∷ []))
    (cond (eqb p 4) (tree 0 (entry 30 none 0 ∷ entry 35 none 0 ∷ []))
    (cond (eqb p 5) (tree 1 (entry 0 none 1 ∷ entry 10 none 2 ∷ []))
    (cond (eqb p 6) (tree 1 (entry 20 none 3 ∷ entry 30 none 4 ∷ []))
    (tree 2 (entry 0 none 5 ∷ entry 20 none 6 ∷ [])))))))

unfoldable pub tall : List ℕ
tall =
    image_bytes 2
    (record {
      head =
          record {
            pages = 8;
            height = 3;
            root = 7;
            free = 0;
            chain = 0;
            mark = 8;
            kind = 1;
            window = 0;
            changes = 0;
            capacity = 4;
          };
      page = tall_cell;
    })

-- A rule that isn't commutative: the pair further up, if there is one. The kinds' rules are, and can't tell one order from another.
unfoldable pub upper : Pair → Pair → Pair
upper p q = cond (same_pair p none) q p

-- Kind 2, and the pair (5, 1) over (7, 1) on the path to 10: the root's first entry has the one, the left leaf's second the other.
unfoldable pub paired : List ℕ
paired =
    let root = entry 0 (pair (pos 5) (pos 1)) 1 ∷ entry 15 none 2 ∷ [] in
    patch (patch (patch (pages 7 5 2 6 root) 24 (2 ∷ [])) (112 + 64) (7 ∷ [])) (112 + 72) (1 ∷ [])

-- the pair at 10 there by any rule, combined on the way back, and on the way down
unfoldable pub back : (Pair → Pair → Pair) → Pair
back comb = let h = head_of (page_at 2 paired 0) in (look_by comb 2 h paired 10 1 (root_context h) 3).pair

unfoldable pub down : (Pair → Pair → Pair) → Pair
down comb = let h = head_of (page_at 2 paired 0) in (descend comb 2 h paired 10 1 (root_context h) 3 none 0).pair

-- whether no two neighbours of runs with these sums and counts are to be joined
unfoldable pub differing : List (ℕ × ℕ) → Bool
differing ps = neighbours_differ (map (λ p. run 0 (pair (pos p.0) (pos p.1))) ps)

-- Two leaves: `left` and `right` are the pairs of the root's entries over them, `last` is that of the left one's last entry, `first` that
-- of the right one's first.
unfoldable pub meeting : Pair → Pair → Pair → Pair → ℕ → Cell
meeting left last right first p =
    cond (eqb p 1) (tree 0 (entry 0 (pair (pos 3) (pos 1)) 0 ∷ entry 10 last 0 ∷ []))
    (cond (eqb p 2) (tree 0 (entry 15 first 0 ∷ entry 20 (pair (pos 4) (pos 1)) 0 ∷ []))
    (cond (eqb p 3) (tree 1 (entry 0 left 1 ∷ entry 15 right 2 ∷ [])) never_used))

unfoldable pub edge : ℕ × ℕ → ℕ × ℕ → ℕ × ℕ → ℕ × ℕ → List ℕ
edge left last right first =
    let of : ℕ × ℕ → Pair = λ p. pair (pos p.0) (pos p.1) in
    image_bytes 2
    (record {
      head =
          record {
            pages = 4;
            height = 2;
            root = 3;
            free = 0;
            chain = 0;
            mark = 4;
            kind = 1;
            window = 0;
            changes = 9;
            capacity = 4;
          };
      page = meeting (of left) (of last) (of right) (of first);
    })

-- one leaf of two entries with the same pair, of any kind
unfoldable pub alike_in : ℕ → List ℕ
alike_in kind =
    image_bytes 2
    (record {
      head =
          record {
            pages = 2;
            height = 1;
            root = 1;
            free = 0;
            chain = 0;
            mark = 2;
            kind = kind;
            window = 0;
            changes = 1;
            capacity = 4;
          };
      page = λ p. cond (eqb p 1) (tree 0 (entry 0 (pair (pos 1) (pos 1)) 0 ∷ entry 10 (pair (pos 1) (pos 1)) 0 ∷ [])) never_used;
    })

pub record Cases : Type 0 where
  -- An audit of a sound image looks at each page once.
  pub whole_sound : sound 2 whole ≡ true
  pub whole_audit : audit_looks 2 whole ≡ 3 ∷ 1 ∷ 2 ∷ 5 ∷ 4 ∷ 6 ∷ []
  -- It ends at an unfit page: no page after it is looked at, in the tree or elsewhere.
  pub left_hurt : audit_looks 2 (hurt 1 whole) ≡ 3 ∷ 1 ∷ []
  pub right_hurt : audit_looks 2 (hurt 2 whole) ≡ 3 ∷ 1 ∷ 2 ∷ []
  pub root_hurt : audit_looks 2 (hurt 3 whole) ≡ 3 ∷ []
  -- Below an unfit page there is nothing to look at, even for a walk that went on.
  pub below_hurt :
      let img = hurt 3 whole in
      let h = head_of (page_at 2 img 0) in
      pages_of (visits 2 h img every_entry 1 (root_context h) 3) ≡ 3 ∷ []
  -- A page that is met once more is unfit there.
  pub page_twice : pages_of (audit_trail 2 (pages 7 5 2 6 (entry 0 none 1 ∷ entry 15 none 1 ∷ []))) ≡ 3 ∷ 1 ∷ 1 ∷ []
  pub fit_once :
      let img = pages 7 5 2 6 (entry 0 none 1 ∷ entry 15 none 1 ∷ []) in
      found_fit 2 (head_of (page_at 2 img 0)) img (audit_trail 2 img) ≡ 3 ∷ 1 ∷ []
  pub circle : pages_of (audit_trail 2 (pages 7 5 2 6 (entry 0 none 3 ∷ entry 15 none 2 ∷ []))) ≡ 3 ∷ 3 ∷ []
  -- As many looks as the image has pages: every page but the head is found fit, and then one of them is met once more.
  pub as_many : audit_looks 2 (pages 4 0 0 4 (entry 0 none 1 ∷ entry 15 none 2 ∷ entry 30 none 1 ∷ [])) ≡ 3 ∷ 1 ∷ 2 ∷ 1 ∷ []
  -- Where the pages don't add up, an audit ends with the tree.
  pub mark_high : audit_looks 2 (pages 7 5 2 7 both) ≡ 3 ∷ 1 ∷ 2 ∷ []
  pub chain_long : audit_looks 2 (pages 7 5 3 6 both) ≡ 3 ∷ 1 ∷ 2 ∷ []
  -- The chain ends at a page that is not free, and at 0; the pages from the high mark on are looked at all the same.
  pub chain_to_tree : audit_looks 2 (pages 7 1 2 6 both) ≡ 3 ∷ 1 ∷ 2 ∷ 1 ∷ 6 ∷ []
  pub chain_short : audit_looks 2 (pages 7 4 2 6 both) ≡ 3 ∷ 1 ∷ 2 ∷ 4 ∷ 6 ∷ []
  -- A link to the page behind the last is not followed.
  pub chain_out : audit_looks 2 (patch (pages 7 5 2 6 both) (112 * 5 + 4) (7 ∷ [])) ≡ 3 ∷ 1 ∷ 2 ∷ 5 ∷ 6 ∷ []
  -- Leaf first, and yet the pair above stands before the one below: by a rule that isn't commutative it is the one above, both ways.
  pub upper_rule : Associative upper
  pub upper_first : (back upper ≡ pair (pos 5) (pos 1)) × (down upper ≡ pair (pos 5) (pos 1))
  pub greatest : (look_up 2 paired 10).pair ≡ pair (pos 7) (pos 1)
  -- An instant tells the start and the end of its leaf entry: the last one of a page ends where the page does, the very last at END.
  pub starts :
      map (λ t. (look_up 2 whole t).start) (0 ∷ 9 ∷ 10 ∷ 14 ∷ 15 ∷ 24 ∷ 25 ∷ 4294967294 ∷ [])
      ≡ 0 ∷ 0 ∷ 10 ∷ 10 ∷ 15 ∷ 20 ∷ 25 ∷ 25 ∷ []
  pub ends :
      map (λ t. (look_up 2 whole t).end) (0 ∷ 9 ∷ 10 ∷ 14 ∷ 15 ∷ 24 ∷ 25 ∷ 4294967294 ∷ [])
      ≡ 10 ∷ 10 ∷ 15 ∷ 15 ∷ 20 ∷ 25 ∷ END ∷ END ∷ []
  -- At height 3 the last entry of a page ends where its parent does, be that the last of its page too.
  pub tall_ends :
      (map (λ t. (look_up 2 tall t).start) (4 ∷ 9 ∷ 19 ∷ 29 ∷ 35 ∷ []) ≡ 0 ∷ 5 ∷ 15 ∷ 25 ∷ 35 ∷ [])
      × (map (λ t. (look_up 2 tall t).end) (4 ∷ 9 ∷ 19 ∷ 29 ∷ 35 ∷ []) ≡ 5 ∷ 10 ∷ 20 ∷ 30 ∷ END ∷ [])
  -- and neither where a page that it met is unfit
  pub not_told : look_up 2 (hurt 2 whole) 20 ≡ record { fit = false; pair = none; start = 0; end = 0; pages = 2 }
  -- A listing meets no page that ends at a or starts at b, hurt or not.
  pub listing_both : pages_of (listing_trail 2 14 16 whole) ≡ 3 ∷ 1 ∷ 2 ∷ []
  pub listing_left : pages_of (listing_trail 2 0 15 (hurt 2 whole)) ≡ 3 ∷ 1 ∷ []
  pub listing_right : pages_of (listing_trail 2 15 END (hurt 1 whole)) ≡ 3 ∷ 2 ∷ []
  pub listing_hurt : pages_of (listing_trail 2 0 END (hurt 1 whole)) ≡ 3 ∷ 1 ∷ []
  -- An instant meets one page a level.
  pub instant_left : pages_of (instant_trail 2 14 (hurt 2 whole)) ≡ 3 ∷ 1 ∷ []
  pub instant_right : pages_of (instant_trail 2 15 (hurt 1 whole)) ≡ 3 ∷ 2 ∷ []
  pub instant_root : pages_of (instant_trail 2 15 (hurt 3 whole)) ≡ 3 ∷ []
  -- Neighbours differ in their sum or in their count, and not by their starts; two that are alike may stand apart.
  pub apart : map differing ([] ∷ ((1, 1) ∷ []) ∷ ((1, 1) ∷ (2, 1) ∷ (1, 1) ∷ []) ∷ ((1, 1) ∷ (1, 2) ∷ []) ∷ []) ≡ true ∷ true ∷ true ∷ true ∷ []
  pub alike :
      (map differing (((1, 1) ∷ (1, 1) ∷ []) ∷ ((1, 1) ∷ (1, 1) ∷ (2, 1) ∷ []) ∷ ((2, 1) ∷ (1, 1) ∷ (1, 1) ∷ []) ∷ [])
      ≡ false ∷ false ∷ false ∷ [])
      × (neighbours_differ (run 0 none ∷ run 10 none ∷ []) ≡ false)
  -- At an edge between pages totals are compared, sum and count, and not the entries' own pairs; in a page too.
  pub edges_alike :
      (sound_before 2 (edge (5, 1) (2, 0) (0, 0) (7, 1)) ≡ true)
      × (sound 2 (edge (5, 1) (2, 0) (0, 0) (7, 1)) ≡ false)
      × (neighbours_apart 2 (edge (5, 1) (2, 0) (0, 0) (7, 1)) ≡ false)
      × (neighbours_apart 2 (edge (5, 1) (3, 1) (0, 0) (7, 1)) ≡ false)
  pub edges_apart :
      map (neighbours_apart 2)
      (edge (5, 1) (7, 1) (0, 0) (7, 1) ∷ edge (5, 1) (2, 0) (0, 0) (7, 2) ∷ edge (5, 1) (2, 0) (0, 0) (8, 1) ∷ [])
      ≡ true ∷ true ∷ true ∷ []
  pub edge_entries : leaf_entries 2 (edge (5, 1) (2, 0) (0, 0) (7, 1)) ≡ 4
  pub edges_sound : sound 2 (edge (5, 1) (7, 1) (0, 0) (7, 1)) ≡ true
  -- Of kinds 2 and 3 nothing more is asked than before.
  pub alike_before : map (λ k. sound_before 2 (alike_in k)) (1 ∷ 2 ∷ 3 ∷ []) ≡ true ∷ true ∷ true ∷ []
  pub alike_sound : map (λ k. sound 2 (alike_in k)) (1 ∷ 2 ∷ 3 ∷ []) ≡ false ∷ true ∷ true ∷ []
