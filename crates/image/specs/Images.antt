-- Document 01, "The page": "The image is n pages of 512 bytes, n from 2 to 1,024." The image as bytes, and as the pages that
-- the steps of a change work on. Its pages have the bytes that its capacity asks: document 02, (xi). Assumes nothing.
use Rattle.std.specs.Prelude.{ℕ, suc, ◌+◌, ◌*◌, ◌-◌, ◌/◌, ◌≡◌, Bool, cond, ◌&&◌, List, [], ◌∷◌, ◌++◌, length, eqb, leb}
use Rattle.rule.specs.Pairs.{none}
use Rattle.fields.specs.Bytes.{part, unused}
use Rattle.fields.specs.Numbers.{u32_at}
use Rattle.page.specs.declared.Entry.{Entry}
use Rattle.page.specs.declared.Head.{Head}
use Rattle.page.specs.Entries.{entry}
use Rattle.page.specs.Layout.{half_named, page_size, level_of, entries_of, next_of, free_level, head_of, tree_bytes, free_bytes, head_bytes}
use Rattle.lists.specs.Lists.{listed, concat_map}

-- "In an image K is read before the length is judged": the head's field for it, and half of the capacity that it names
unfoldable pub capacity_field : List ℕ → ℕ
capacity_field img = u32_at img 36

unfoldable pub half_of : List ℕ → ℕ
half_of img = half_named (capacity_field img)

-- the bytes of page p
unfoldable pub page_at : ℕ → List ℕ → ℕ → List ℕ
page_at half img p = part img (page_size half * p) (page_size half)

-- how many pages a length holds
unfoldable pub pages_in : ℕ → List ℕ → ℕ
pages_in half img = length img / page_size half

-- 16's condition, turned round: the length is that of n pages, for an n in range
unfoldable pub length_ok : ℕ → List ℕ → Bool
length_ok half img =
    eqb (length img) (page_size half * pages_in half img) && (leb 2 (pages_in half img) && leb (pages_in half img) 1024)

-- What a page holds: a tree page's level and entries, a free page's next, or nothing yet.
pub data Cell : Type 0 where
  tree : ℕ → List Entry → Cell
  free : ℕ → Cell
  never_used : Cell

-- a cell's entries; none where it is no tree page
unfoldable pub entries_in : Cell → List Entry
entries_in (tree level es) = es
entries_in (free next) = []
entries_in never_used = []

-- a free page's next
unfoldable pub next_in : Cell → ℕ
next_in (tree level es) = 0
next_in (free next) = next
next_in never_used = 0

-- An image as a change sees it: the head's numbers, and what each page holds.
pub record Image : Type 0 where
  pub head : Head
  pub page : ℕ → Cell

-- the level field of a page that was never used: FF FF FF FF
abbrev pub never_used_level : ℕ
never_used_level = 4294967295

unfoldable pub cell_of : ℕ → List ℕ → Cell
cell_of half s =
    let level = level_of s in
    cond (eqb level free_level) (free (next_of s))
    (cond (eqb level never_used_level) never_used (tree level (entries_of half s)))

unfoldable pub cell_bytes : ℕ → Cell → List ℕ
cell_bytes half (tree level es) = tree_bytes half level es
cell_bytes half (free next) = free_bytes half next
cell_bytes half never_used = unused (page_size half)

-- from bytes, and back to all of them
unfoldable pub image_of : ℕ → List ℕ → Image
image_of half img = record { head = head_of (page_at half img 0); page = λ p. cell_of half (page_at half img p) }

unfoldable pub image_bytes : ℕ → Image → List ℕ
image_bytes half X =
    head_bytes half X.head ++ concat_map (λ p. cell_bytes half (X.page (suc p))) (listed (X.head.pages - 1) (λ p. p))

-- A cell whose bytes are those of a page and are read back.
pub record Canonical (half : ℕ) (c : Cell) : Type 0 where
  pub sized : length (cell_bytes half c) ≡ page_size half
  pub again : cell_of half (cell_bytes half c) ≡ c

-- "Format leaves height 1, changes 0, high mark 2, no chain and root 1, a leaf with entry 0, (0, 0)." The last number is the capacity's
-- field.
unfoldable pub fresh_page : ℕ → Cell
fresh_page p = cond (eqb p 1) (tree 0 (entry 0 none 0 ∷ [])) never_used

unfoldable pub fresh : ℕ → ℕ → ℕ → ℕ → Image
fresh pages kind window field =
    record {
      head =
          record {
            pages = pages;
            height = 1;
            root = 1;
            free = 0;
            chain = 0;
            mark = 2;
            kind = kind;
            window = window;
            changes = 0;
            capacity = field;
          };
      page = fresh_page;
    }
