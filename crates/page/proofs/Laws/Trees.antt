-- The laws of a tree page's bytes: what is read from them, that they are the page that was read, and that no byte is left over. A page is
-- taken as three pieces: the 32 bytes before the arrays, and the two arrays, each a run of slots. Assumes nothing.
use mathlib.Core.Path.{◌≡◌, refl, sym, ap, ◌∙◌}
use mathlib.Core.Bool.{Bool, true, ◌&&◌, and-eq-true_iff}
use mathlib.Core.List.{List, [], ◌∷◌, ◌++◌, append_assoc}
use Prim.Native.Nat.{ℕ, ◌+◌, ◌-◌, ◌*◌, ◌^◌, ◌≤◌, ◌<◌, min}
use native.Mathlib.Nat.{min-eq_left}
use native.Mathlib.Omega.{arith}
use lib.ListN.{length, length-append, length-take, length-drop}
use Rattle.fields.specs.Bytes.{Bytes, part, patch, unused, all_are}
use Rattle.fields.specs.Numbers.{u32_bytes}
use Rattle.fields.proofs.Laws.Parts.{length_part, part_whole, part_middle, part_append_left, patch_append_left}
use Rattle.fields.proofs.Laws.Digits.{bytes_append, bytes_unused}
use Rattle.fields.proofs.Laws.Offsets.{u32}
use Rattle.fields.proofs.Laws.Tests.{length_unused, unused_add, all_are_unused, unused_all_are}
use Rattle.page.specs.declared.Entry.{Entry}
use Rattle.page.specs.Entries.{at, no_entry}
use Rattle.page.specs.Layout.{capacity, start_offset, entry_offset, page_size, level_of, entry_count, entry_at, entries_of, unused_ok}
use Rattle.page.specs.Layout.{entry_bytes, with_entry, without_entry, tree_bytes}
use Rattle.lists.specs.Lists.{listed, splice}
use Rattle.lists.proofs.Edits.{length_splice_one}
use Rattle.page.specs.Widths.{EntryFits, EntriesFit}
use Rattle.lists.proofs.Listed.{length_listed, get_or_listed, listed_more, listed_same, listed_each, listed_get_or}
use Rattle.page.proofs.Laws.Concat.{run, run_none, bytes_run, length_run, part_run, part_run_past, run_parts, patch_slot, patch_last}
use Rattle.page.proofs.Laws.Pieces.{part_pieces, part_second, part_third, patch_middle, patch_second, patch_third}
use Rattle.page.proofs.Laws.Shifts.{splice_end}
use Rattle.page.proofs.Laws.Entries.{start_bytes, length_start_bytes, bytes_start_bytes, length_entry_bytes, bytes_entry_bytes}
use Rattle.page.proofs.Laws.Entries.{entry_at_bytes, entry_at_fits, no_entry_fits, start_bytes_at, entry_bytes_at}

-- ---- the three pieces

abbrev top : ℕ → ℕ → List ℕ
top level number = u32_bytes level ++ (u32_bytes number ++ unused 24)

length_top : (level number : ℕ) → length (top level number) ≡ 32
length_top level number = simp (length-append, u32.length_bytes, length_unused)

starts : ℕ → List Entry → List ℕ
starts half es = run start_bytes 4 (capacity half) es

entries : ℕ → List Entry → List ℕ
entries half es = run entry_bytes 16 (capacity half) es

-- A tree page while it is written: it says `number` already, and has the entries es.
pub page_bytes : ℕ → ℕ → ℕ → List Entry → List ℕ
page_bytes half level number es = top level number ++ (starts half es ++ entries half es)

pub tree_page : (half level : ℕ) (es : List Entry) → tree_bytes half level es ≡ page_bytes half level (length es) es
unfolding tree_bytes page_bytes run starts entries
tree_page half level es = simp append_assoc

-- with no entry yet, all is unused behind the two numbers
pub page_none : (half level number : ℕ)
    → page_bytes half level number [] ≡ u32_bytes level ++ (u32_bytes number ++ unused (page_size half - 8))
unfolding page_bytes starts entries
page_none half level number =
    let e : 24 + (4 * capacity half + 16 * capacity half) ≡ page_size half - 8 = omega arith in
    (λ j.
    top level number ++
    (run_none start_bytes 4 length_start_bytes (capacity half) j ++ run_none entry_bytes 16 length_entry_bytes (capacity half) j))
    ∙ simp append_assoc
    (ap (λ l. u32_bytes level ++ (u32_bytes number ++ l))
    (ap (λ l. unused 24 ++ l) (sym (unused_add (4 * capacity half) (16 * capacity half)))
    ∙ sym (unused_add 24 (4 * capacity half + 16 * capacity half)) ∙ ap unused e))

module _ (half level number : ℕ) (es : List Entry) where
  length_starts : length es ≤ capacity half → length (starts half es) ≡ 4 * capacity half
  unfolding starts
  length_starts h = length_run start_bytes 4 length_start_bytes (capacity half) es h

  pub bytes_page : Bytes (page_bytes half level number es)
  unfolding page_bytes starts entries
  bytes_page =
      bytes_append (top level number) (starts half es ++ entries half es)
      (bytes_append (u32_bytes level) (u32_bytes number ++ unused 24) (u32.bytes_bytes level)
      (bytes_append (u32_bytes number) (unused 24) (u32.bytes_bytes number) (bytes_unused 24)))
      (bytes_append (starts half es) (entries half es)
      (bytes_run start_bytes 4 length_start_bytes (capacity half) bytes_start_bytes es)
      (bytes_run entry_bytes 16 length_entry_bytes (capacity half) bytes_entry_bytes es))

  module _ (within : length es ≤ capacity half) where
    pub length_page : length (page_bytes half level number es) ≡ page_size half
    unfolding page_bytes entries
    length_page =
        let b : length (starts half es) ≡ 4 * capacity half = length_starts within in
        let c : length (entries half es) ≡ 16 * capacity half = length_run entry_bytes 16 length_entry_bytes (capacity half) es within in
        simp (length-append, u32.length_bytes, length_unused) (omega arith)

    -- a part of each piece
    part_top : (o m : ℕ) → o + m ≤ 32 → part (page_bytes half level number es) o m ≡ part (top level number) o m
    unfolding page_bytes
    part_top o m h =
        let e : length (top level number) ≡ 32 = length_top level number in
        part_append_left (top level number) (starts half es ++ entries half es) o m (omega arith)

    part_starts : (p m : ℕ) → p + m ≤ 4 * capacity half → part (page_bytes half level number es) (32 + p) m ≡ part (starts half es) p m
    unfolding page_bytes
    part_starts p m h =
        let e : length (starts half es) ≡ 4 * capacity half = length_starts within in
        part_second (top level number) (starts half es) (entries half es) 32 p m (length_top level number) (omega arith)

    part_entries : (p m : ℕ) → part (page_bytes half level number es) (32 + 4 * capacity half + p) m ≡ part (entries half es) p m
    unfolding page_bytes
    part_entries p m =
        part_third (top level number) (starts half es) (entries half es) (32 + 4 * capacity half) p m
        (λ j. length_top level number j + length_starts within j)

    -- ---- what stands where

    pub page_level : part (page_bytes half level number es) 0 4 ≡ u32_bytes level
    page_level =
        part_top 0 4 (omega arith) ∙ part_middle [] (u32_bytes level) (u32_bytes number ++ unused 24) 0 4 refl (u32.length_bytes level)

    pub page_number : part (page_bytes half level number es) 4 4 ≡ u32_bytes number
    page_number =
        part_top 4 4 (omega arith)
        ∙ part_middle (u32_bytes level) (u32_bytes number) (unused 24) 4 4 (u32.length_bytes level) (u32.length_bytes number)

    page_gap : part (page_bytes half level number es) 8 24 ≡ unused 24
    page_gap =
        part_top 8 24 (omega arith)
        ∙ part_third (u32_bytes level) (u32_bytes number) (unused 24) 8 0 24 (λ j. u32.length_bytes level j + u32.length_bytes number j)
        ∙ part_whole (unused 24) 24 (length_unused 24)

    page_entry : (i : ℕ) → i < length es → EntryFits (at es i) → entry_at half (page_bytes half level number es) i ≡ at es i
    unfolding starts entries
    page_entry i h w =
        entry_at_bytes half (page_bytes half level number es) i (at es i)
        (part_starts (4 * i) 4 (omega arith) ∙ part_run start_bytes 4 length_start_bytes (capacity half) es no_entry i h)
        (part_entries (16 * i) 16 ∙ part_run entry_bytes 16 length_entry_bytes (capacity half) es no_entry i h)
        w

    page_starts_past : part (page_bytes half level number es) (start_offset (length es)) (4 * (capacity half - length es)) ≡
        unused (4 * (capacity half - length es))
    unfolding starts
    page_starts_past =
        part_starts (4 * length es) (4 * (capacity half - length es)) (omega arith)
        ∙ part_run_past start_bytes 4 length_start_bytes (capacity half) es

    page_entries_past : part (page_bytes half level number es) (entry_offset half (length es)) (16 * (capacity half - length es)) ≡
        unused (16 * (capacity half - length es))
    unfolding entries
    page_entries_past =
        part_entries (16 * length es) (16 * (capacity half - length es))
        ∙ part_run_past entry_bytes 16 length_entry_bytes (capacity half) es

-- ---- slots that are written

module _ (half level number : ℕ) (es : List Entry) where
  -- the page says another number
  pub page_numbered : (m : ℕ) → patch (page_bytes half level number es) 4 (u32_bytes m) ≡ page_bytes half level m es
  unfolding page_bytes
  page_numbered m =
      let n : length (u32_bytes m) ≡ 4 = u32.length_bytes m in
      let e : length (top level number) ≡ 32 = length_top level number in
      patch_append_left (top level number) (starts half es ++ entries half es) 4 (u32_bytes m) (omega arith)
      ∙ ap (λ l. l ++ (starts half es ++ entries half es))
      (patch_middle (u32_bytes level) (u32_bytes number) (unused 24) 4 (u32_bytes m) (u32.length_bytes level)
      (n ∙ sym (u32.length_bytes number)))

-- an entry's slot of either array is written
module _ (half level number : ℕ) (es fs : List Entry) where
  page_slot : (i : ℕ) (bs cs : List ℕ) → length es ≤ capacity half → length fs ≤ capacity half → i < capacity half
      → length bs ≡ 4 → patch (starts half es) (4 * i) bs ≡ starts half fs → patch (entries half es) (16 * i) cs ≡ entries half fs
      → patch (patch (page_bytes half level number es) (start_offset i) bs) (entry_offset half i) cs ≡ page_bytes half level number fs
  unfolding page_bytes
  page_slot i bs cs h l within lb f g =
      let a : List ℕ = top level number in
      let la : length a ≡ 32 = length_top level number in
      let ls : length (starts half es) ≡ 4 * capacity half = length_starts half level number es h in
      let lf : length (starts half fs) ≡ 4 * capacity half = length_starts half level number fs l in
      ap (λ s. patch s (entry_offset half i) cs)
      (patch_second a (starts half es) (entries half es) 32 (4 * i) bs la (omega arith) ∙ ap (λ s. a ++ (s ++ entries half es)) f)
      ∙ patch_third a (starts half fs) (entries half es) (32 + 4 * capacity half) (16 * i) cs (λ j. la j + lf j)
      ∙ ap (λ s. a ++ (starts half fs ++ s)) g

module _ (half level number : ℕ) (es : List Entry) where
  -- an entry is written at a slot of another, or at the first unused one
  pub page_set : (e : Entry) (i : ℕ) → i ≤ length es → i < capacity half → length es ≤ capacity half
      → with_entry half i e (page_bytes half level number es) ≡ page_bytes half level number (splice i (e ∷ []) es)
  unfolding with_entry starts entries splice
  page_set e i h within l =
      page_slot half level number es (splice i (e ∷ []) es) i (start_bytes e) (entry_bytes e) l
      (simp (length-append, length-take, length-drop) (omega arith)) within (length_start_bytes e)
      (patch_slot start_bytes 4 length_start_bytes (capacity half) es e i h within)
      (patch_slot entry_bytes 16 length_entry_bytes (capacity half) es e i h within)

  -- and one that was read at another slot
  pub page_copied : (i j : ℕ) → i < length es → j ≤ length es → j < capacity half → length es ≤ capacity half
      → with_entry half j (entry_at half (page_bytes half level number es) i) (page_bytes half level number es) ≡
      page_bytes half level number (splice j (at es i ∷ []) es)
  unfolding with_entry starts entries
  page_copied i j h g within l =
      let s : List ℕ = page_bytes half level number es in
      let n : length s ≡ page_size half = length_page half level number es l in
      let a : start_bytes (entry_at half s i) ≡ start_bytes (at es i) =
      start_bytes_at half s i (bytes_page half level number es) (omega arith) ∙ part_starts half level number es l (4 * i) 4 (omega arith)
      ∙ part_run start_bytes 4 length_start_bytes (capacity half) es no_entry i h in
      let b : entry_bytes (entry_at half s i) ≡ entry_bytes (at es i) =
      entry_bytes_at half s i (bytes_page half level number es) (omega arith) ∙ part_entries half level number es l (16 * i) 16
      ∙ part_run entry_bytes 16 length_entry_bytes (capacity half) es no_entry i h in
      (λ k. patch (patch s (start_offset j) (a k)) (entry_offset half j) (b k))
      ∙ page_set (at es i) j g within l

  -- the slot behind its entries is unused again
  pub page_dropped : (e : Entry) → length es < capacity half
      → without_entry half (length es) (page_bytes half level number (es ++ (e ∷ []))) ≡ page_bytes half level number es
  unfolding without_entry starts entries
  page_dropped e h =
      page_slot half level number (es ++ (e ∷ [])) es (length es) (unused 4) (unused 16) (simp length-append (omega arith)) (omega arith) h
      (length_unused 4) (patch_last start_bytes 4 length_start_bytes (capacity half) es e h)
      (patch_last entry_bytes 16 length_entry_bytes (capacity half) es e h)

-- a page whose entries are listed: a loop's step writes one more of them
pub page_listed_more : (half level number i : ℕ) (f : ℕ → Entry) {s t : List ℕ} {e : Entry} → i < capacity half
    → t ≡ with_entry half i e s → e ≡ f i
    → s ≡ page_bytes half level number (listed i f) → t ≡ page_bytes half level number (listed (i + 1) f)
page_listed_more half level number i f h step same before =
    let n : length (listed i f) ≡ i = length_listed i f in
    step
    ∙ (λ j. with_entry half (sym n j) (same j) (before j))
    ∙ page_set half level number (listed i f) (f i) (length (listed i f)) (omega arith) (omega arith) (omega arith)
    ∙ ap (page_bytes half level number) (splice_end (listed i f) (f i) ∙ sym (listed_more i f))

-- a page that says how many entries it has is the tree page
pub page_whole : (half level number : ℕ) (es : List Entry) → length es ≡ number → page_bytes half level number es ≡ tree_bytes half level es
page_whole half level number es e = ap (λ k. page_bytes half level k es) (sym e) ∙ sym (tree_page half level es)

-- ---- tree pages

-- what `unused_ok` tests of a page with n entries
abbrev unused_from : ℕ → List ℕ → ℕ → Bool
unused_from half s n =
    all_are 255 (part s 8 24) &&
    (all_are 255 (part s (start_offset n) (4 * (capacity half - n)))
    && all_are 255 (part s (entry_offset half n) (16 * (capacity half - n))))

module _ (half level : ℕ) (es : List Entry) where
  pub bytes_tree : Bytes (tree_bytes half level es)
  bytes_tree = rw (tree_page half level es) (bytes_page half level (length es) es)

  module _ (within : length es ≤ capacity half) where
    pub length_tree : length (tree_bytes half level es) ≡ page_size half
    length_tree = ap length (tree_page half level es) ∙ length_page half level (length es) es within

    pub level_of_tree : level < 2 ^ 32 → level_of (tree_bytes half level es) ≡ level
    unfolding level_of
    level_of_tree w =
        u32.at_bytes (tree_bytes half level es) 0 level
        (ap (λ s. part s 0 4) (tree_page half level es) ∙ page_level half level (length es) es within) w

    module _ (w : length es < 2 ^ 32) where
      pub number_of_tree : entry_count (tree_bytes half level es) ≡ length es
      unfolding entry_count
      number_of_tree =
          u32.at_bytes (tree_bytes half level es) 4 (length es)
          (ap (λ s. part s 4 4) (tree_page half level es) ∙ page_number half level (length es) es within) w

      pub entry_at_tree : (i : ℕ) → i < length es → EntryFits (at es i) → entry_at half (tree_bytes half level es) i ≡ at es i
      entry_at_tree i h f = ap (λ s. entry_at half s i) (tree_page half level es) ∙ page_entry half level (length es) es within i h f

      pub entries_of_tree : EntriesFit es → entries_of half (tree_bytes half level es) ≡ es
      unfolding entries_of
      entries_of_tree f =
          let s : List ℕ = tree_bytes half level es in
          ap (λ n. listed (min n (capacity half)) (λ i. entry_at half s i)) number_of_tree
          ∙ ap (λ n. listed n (λ i. entry_at half s i)) (min-eq_left within)
          ∙ listed_same (length es) (λ i. entry_at half s i) (λ i. at es i) (λ i h. entry_at_tree i h (f i))
          ∙ listed_get_or es no_entry

      pub unused_ok_tree : unused_ok half (tree_bytes half level es) ≡ true
      unfolding unused_ok
      unused_ok_tree =
          let n : ℕ = length es in
          let past : ℕ = capacity half - n in
          ap (unused_from half (tree_bytes half level es)) number_of_tree
          ∙ ap (λ s. unused_from half s n) (tree_page half level es)
          ∙ (λ j. all_are 255 (page_gap half level n es within j)
          && (all_are 255 (page_starts_past half level n es within j) && all_are 255 (page_entries_past half level n es within j)))
          ∙ (λ j. all_are_unused 24 j && (all_are_unused (4 * past) j && all_are_unused (16 * past) j))

module _ (half level : ℕ) (es : List Entry) {s : List ℕ} where
  -- what bytes of a tree page say
  pub tree_count : length es ≤ capacity half → length es < 2 ^ 32 → s ≡ tree_bytes half level es → entry_count s ≡ length es
  tree_count within w e = ap entry_count e ∙ number_of_tree half level es within w

  -- and the page once they say another number
  pub tree_numbered : {t : List ℕ} (m : ℕ) → s ≡ tree_bytes half level es → t ≡ patch s 4 (u32_bytes m) → t ≡ page_bytes half level m es
  tree_numbered m e f =
      f ∙ ap (λ l. patch l 4 (u32_bytes m)) (e ∙ tree_page half level es) ∙ page_numbered half level (length es) es m

  -- an entry is another
  pub tree_set : (e : Entry) (i : ℕ) → i < length es → length es ≤ capacity half → s ≡ tree_bytes half level es
      → with_entry half i e s ≡ tree_bytes half level (splice i (e ∷ []) es)
  tree_set e i h within same =
      ap (with_entry half i e) (same ∙ tree_page half level es)
      ∙ page_set half level (length es) es e i (omega arith) (omega arith) within
      ∙ page_whole half level (length es) (splice i (e ∷ []) es) (length_splice_one i e es h)

-- ---- a page's bytes

pub length_entries_of : (half : ℕ) (s : List ℕ) → length (entries_of half s) ≡ min (entry_count s) (capacity half)
unfolding entries_of
length_entries_of half s = length_listed (min (entry_count s) (capacity half)) (λ i. entry_at half s i)

pub entries_of_fit : (half : ℕ) (s : List ℕ) → Bytes s → EntriesFit (entries_of half s)
unfolding entries_of
entries_of_fit half s b =
    listed_each EntryFits (min (entry_count s) (capacity half)) (λ i. entry_at half s i) no_entry no_entry_fits
    (λ i. entry_at_fits half s i b)

pub at_entries_of : (half : ℕ) (s : List ℕ) (i : ℕ) → i < entry_count s → i < capacity half → at (entries_of half s) i ≡ entry_at half s i
unfolding entries_of
at_entries_of half s i g h = get_or_listed (min (entry_count s) (capacity half)) (λ j. entry_at half s j) no_entry i (omega arith)

-- what the test for unused bytes says of the parts that it looks at
pub record Unused (half : ℕ) (s : List ℕ) (n : ℕ) : Type 0 where
  pub gap : part s 8 24 ≡ unused 24
  pub starts_past : part s (start_offset n) (4 * (capacity half - n)) ≡ unused (4 * (capacity half - n))
  pub entries_past : part s (entry_offset half n) (16 * (capacity half - n)) ≡ unused (16 * (capacity half - n))

pub unused_ok_parts : (half : ℕ) (s : List ℕ) → length s ≡ page_size half → entry_count s ≤ capacity half
    → unused_ok half s ≡ true → Unused half s (entry_count s)
unfolding unused_ok
unused_ok_parts half s l within ok =
    let n : ℕ = entry_count s in
    let m : ℕ = capacity half - n in
    let g : Bool = all_are 255 (part s 8 24) in
    let f : Bool = all_are 255 (part s (start_offset n) (4 * m)) in
    let e : Bool = all_are 255 (part s (entry_offset half n) (16 * m)) in
    let x : (g ≡ true) × (f && e ≡ true) = (and-eq-true_iff g (f && e)).0 ok in
    let y : (f ≡ true) × (e ≡ true) = (and-eq-true_iff f e).0 x.1 in
    record {
      gap = unused_all_are 24 (part s 8 24) (length_part s 8 24 (omega arith)) x.0;
      starts_past = unused_all_are (4 * m) (part s (start_offset n) (4 * m)) (length_part s (start_offset n) (4 * m) (omega arith)) y.0;
      entries_past = unused_all_are (16 * m) (part s (entry_offset half n) (16 * m))
          (length_part s (entry_offset half n) (16 * m) (omega arith)) y.1;
    }

-- a page that is read and written again is as it was
pub tree_again : (half : ℕ) (s : List ℕ) → length s ≡ page_size half → Bytes s → entry_count s ≤ capacity half → unused_ok half s ≡ true
    → tree_bytes half (level_of s) (entries_of half s) ≡ s
unfolding page_bytes starts entries entries_of level_of entry_count
tree_again half s l b within ok =
    let n : ℕ = entry_count s in
    let room : ℕ = capacity half in
    let x : ℕ → Entry = λ i. entry_at half s i in
    let u : Unused half s n = unused_ok_parts half s l within ok in
    let t : top (level_of s) n ≡ part s 0 32
    = part_pieces s 0 4 4 28 refl (u32.bytes_at s 0 b (omega arith))
    (part_pieces s 4 4 8 24 refl (u32.bytes_at s 4 b (omega arith)) (sym u.gap)) in
    let f : run start_bytes 4 room (listed n x) ≡ part s 32 (4 * room)
    = run_parts start_bytes 4 length_start_bytes room s 32 n x within (λ i h. start_bytes_at half s i b (omega arith)) u.starts_past in
    let e : run entry_bytes 16 room (listed n x) ≡ part s (32 + 4 * room) (16 * room)
    = run_parts entry_bytes 16 length_entry_bytes room s (32 + 4 * room) n x within (λ i h. entry_bytes_at half s i b (omega arith))
    u.entries_past in
    ap (λ k. tree_bytes half (level_of s) (listed k x)) (min-eq_left within)
    ∙ tree_page half (level_of s) (listed n x)
    ∙ ap (λ k. page_bytes half (level_of s) k (listed n x)) (length_listed n x)
    ∙ part_pieces s 0 32 32 (4 * room + 16 * room) refl t (part_pieces s 32 (4 * room) (32 + 4 * room) (16 * room) refl f e)
    ∙ part_whole s (32 + (4 * room + 16 * room)) (omega arith)
