-- Document 01, "The page": where the numbers of a page stand, over half the capacity of a page; and which capacities there are: document 02,
-- (xi). Assumes nothing.
use Rattle.std.specs.Prelude.{ℕ, ◌≡◌, ◌<◌, ◌+◌, ◌*◌, ◌-◌, ◌/◌, ◌%◌, min, Bool, cond, ◌&&◌, List, [], ◌∷◌, ◌++◌, length, eqb, leb}
use Rattle.lists.specs.Lists.{listed, concat_map}
use Rattle.rule.specs.declared.Pair.{Pair}
use Rattle.fields.specs.Bytes.{part, patch, unused, all_are}
use Rattle.fields.specs.Numbers.{u32_at, i32_at, i64_at, u32_bytes, i32_bytes, i64_bytes}
use Rattle.page.specs.declared.Entry.{Entry}
use Rattle.page.specs.declared.Head.{Head}
use Rattle.page.specs.Entries.{entry}

-- All that follows from the capacity of a page stands here: half of it is the one number that differs between chips.
abbrev pub capacity : ℕ → ℕ
capacity half = 2 * half

-- "The capacity K is an even number from 4 to 24"
unfoldable pub capacity_ok : ℕ → Bool
capacity_ok k = eqb (k % 2) 0 && (leb 4 k && leb k 24)

-- the capacity that the head's field names: "an image of 512-byte pages without the field (FF there) reads as K = 24"
abbrev pub no_field : ℕ
no_field = 4294967295

unfoldable pub capacity_named : ℕ → ℕ
capacity_named field = cond (eqb field no_field) 24 field

-- "Half is K/2"
abbrev pub half_named : ℕ → ℕ
half_named field = capacity_named field / 2

-- "level (u32, leaf 0), number of entries (u32), 24 bytes FF; then two parallel arrays of 24: starts (u32), and entries of 16 bytes"; by
-- document 02, (xi), of K places
abbrev pub start_offset : ℕ → ℕ
start_offset i = 32 + 4 * i

abbrev pub entry_offset : ℕ → ℕ → ℕ
entry_offset half i = 32 + 4 * capacity half + 16 * i

-- "a page has 32 + 20 × K bytes and each array K places"
abbrev pub page_size : ℕ → ℕ
page_size half = 32 + 20 * capacity half

-- s has as many bytes as a page, and a page has an i-th slot
abbrev pub HasSlot : ℕ → List ℕ → ℕ → Type 0
HasSlot half s i = (length s ≡ page_size half) × (i < capacity half)

-- Reading a tree page

unfoldable pub level_of : List ℕ → ℕ
level_of s = u32_at s 0

-- "number of entries (u32)": as the page says, not yet compared with the capacity
unfoldable pub entry_count : List ℕ → ℕ
entry_count s = u32_at s 4

unfoldable pub start_at : List ℕ → ℕ → ℕ
start_at s i = u32_at s (start_offset i)

-- "sum (i64), count (i32), child page (u32, 0 in a leaf)"
unfoldable pub pair_at : ℕ → List ℕ → ℕ → Pair
pair_at half s i = record { sum = i64_at s (entry_offset half i); count = i32_at s (entry_offset half i + 8) }

unfoldable pub child_at : ℕ → List ℕ → ℕ → ℕ
child_at half s i = u32_at s (entry_offset half i + 12)

unfoldable pub entry_at : ℕ → List ℕ → ℕ → Entry
entry_at half s i = entry (start_at s i) (pair_at half s i) (child_at half s i)

-- A page's entries. The count is held against the capacity before it is used: no slot past the arrays is read.
unfoldable pub entries_of : ℕ → List ℕ → List Entry
entries_of half s = listed (min (entry_count s) (capacity half)) (λ i. entry_at half s i)

-- "Places past the number are FF." And the 24 bytes before the arrays.
unfoldable pub unused_ok : ℕ → List ℕ → Bool
unused_ok half s =
    let n = entry_count s in
    let past = capacity half - n in
    all_are 255 (part s 8 24)
    && (all_are 255 (part s (start_offset n) (4 * past))
    && all_are 255 (part s (entry_offset half n) (16 * past)))

-- Writing a tree page

unfoldable pub entry_bytes : Entry → List ℕ
entry_bytes e = i64_bytes e.pair.sum ++ (i32_bytes e.pair.count ++ u32_bytes e.child)

-- a page's bytes with an entry written at the i-th slot
unfoldable pub with_entry : ℕ → ℕ → Entry → List ℕ → List ℕ
with_entry half i e s = patch (patch s (start_offset i) (u32_bytes e.start)) (entry_offset half i) (entry_bytes e)

-- and with the i-th slot unused: "Places past the number are FF."
unfoldable pub without_entry : ℕ → ℕ → List ℕ → List ℕ
without_entry half i s = patch (patch s (start_offset i) (unused 4)) (entry_offset half i) (unused 16)

unfoldable pub tree_bytes : ℕ → ℕ → List Entry → List ℕ
tree_bytes half level es =
    let past = capacity half - length es in
    u32_bytes level ++ (u32_bytes (length es) ++ (unused 24
    ++ (concat_map (λ e. u32_bytes e.start) es ++ (unused (4 * past)
    ++ (concat_map entry_bytes es ++ unused (16 * past))))))

-- "Free page: level field 255, next free page (0 ends the chain), rest FF."
abbrev pub free_level : ℕ
free_level = 255

unfoldable pub next_of : List ℕ → ℕ
next_of s = u32_at s 4

unfoldable pub free_bytes : ℕ → ℕ → List ℕ
free_bytes half next = u32_bytes free_level ++ (u32_bytes next ++ unused (page_size half - 8))

unfoldable pub free_ok : ℕ → List ℕ → Bool
free_ok half s = eqb (level_of s) free_level && all_are 255 (part s 8 (page_size half - 8))

-- "From the high mark on, pages are all FF."
unfoldable pub never_used_ok : List ℕ → Bool
never_used_ok s = all_are 255 s

-- "Page 0, the head, u32 each: n, height (1 to 4), root page, first free page (0 none), free chain length, high mark
-- (lowest page never used, 2 to n), kind, window, changes. Rest FF." The capacity is "stored in the head after changes".
unfoldable pub head_of : List ℕ → Head
head_of s =
    record {
      pages = u32_at s 0;
      height = u32_at s 4;
      root = u32_at s 8;
      free = u32_at s 12;
      chain = u32_at s 16;
      mark = u32_at s 20;
      kind = u32_at s 24;
      window = u32_at s 28;
      changes = u32_at s 32;
      capacity = u32_at s 36;
    }

-- its numbers in their order
abbrev pub head_numbers : Head → List ℕ
head_numbers h =
    h.pages ∷ h.height ∷ h.root ∷ h.free ∷ h.chain ∷ h.mark ∷ h.kind ∷ h.window ∷ h.changes ∷ h.capacity ∷ []

unfoldable pub head_bytes : ℕ → Head → List ℕ
head_bytes half h = concat_map u32_bytes (head_numbers h) ++ unused (page_size half - 40)
