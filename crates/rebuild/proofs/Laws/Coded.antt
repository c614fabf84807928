-- Entries whose bytes are the same: pages and levels of the one are those of the other, byte for byte. So nothing has to be known of the
-- range of a number that is written, read and written again. Assumes nothing.
use Prim.Native.Nat.{ℕ, zero, suc, ◌+◌, ◌-◌, ◌*◌}
use mathlib.Core.Path.{◌≡◌, refl, sym, ap, ◌∙◌}
use mathlib.Core.Bool.{Bool, true, false, cond}
use mathlib.Core.List.{List, [], ◌++◌, map}
use lib.Dec.{leb}
use lib.ListN.{length, length-map, get_or, get_or-map}
use Rattle.lists.specs.Lists.{listed, concat_map}
use Rattle.lists.proofs.Listed.{listed_same}
use Rattle.lists.proofs.Concat.{concat_map_append, concat_map_map}
use Rattle.lists.proofs.Edits.{map_listed}
use Rattle.rule.specs.Pairs.{none}
use Rattle.fields.specs.Bytes.{unused}
use Rattle.fields.specs.Numbers.{u32_bytes}
use Rattle.page.specs.declared.Entry.{Entry}
use Rattle.page.specs.Entries.{entry, at, no_entry}
use Rattle.page.specs.Layout.{capacity, entry_bytes, tree_bytes}
use Rattle.image.specs.Images.{Cell, tree, cell_bytes}
use Rattle.image.proofs.Rows.{rows}
use Rattle.tight.specs.Tight.{pages_for, in_page, level_cells, entries_above, cells}
use Rattle.tight.proofs.Levels.{map_in_page}
use Rattle.rebuild.specs.Levels.{level_bytes}
use Rattle.rebuild.proofs.Laws.Pieces.{joined_rows}

-- the bytes of an entry: its start's, and those of its sum, count and child
pub record Coded : Type 0 where
  pub start : List ℕ
  pub rest : List ℕ

abbrev pub coded : Entry → Coded
coded e = record { start = u32_bytes e.start; rest = entry_bytes e }

-- entries with the same bytes, in turn
pub record SameBytes (es fs : List Entry) : Type 0 where
  pub each : map coded es ≡ map coded fs

-- ---- a page

module _ (half level : ℕ) where
  coded_page : List Coded → List ℕ
  coded_page cs =
      let past = capacity half - length cs in
      u32_bytes level ++ (u32_bytes (length cs) ++ (unused 24
      ++ (concat_map (λ c. c.start) cs ++ (unused (4 * past)
      ++ (concat_map (λ c. c.rest) cs ++ unused (16 * past))))))

  tree_coded : (es : List Entry) → tree_bytes half level es ≡ coded_page (map coded es)
  unfolding tree_bytes coded_page
  tree_coded es =
      let n : length es ≡ length (map coded es) = sym (length-map es coded) in
      λ j.
      u32_bytes level ++ (u32_bytes (n j) ++ (unused 24
      ++ (concat_map_map (λ (e : Entry). u32_bytes e.start) (λ c. c.start) coded (λ e. refl) es j ++ (unused (4 * (capacity half - n j))
      ++ (concat_map_map entry_bytes (λ c. c.rest) coded (λ e. refl) es j ++ unused (16 * (capacity half - n j)))))))

  tree_same : {es fs : List Entry} → SameBytes es fs → tree_bytes half level es ≡ tree_bytes half level fs
  tree_same {es} {fs} e = tree_coded es ∙ ap coded_page e.each ∙ sym (tree_coded fs)

-- ---- a level, and the entries above it

length_same : {es fs : List Entry} → SameBytes es fs → length es ≡ length fs
length_same {es} {fs} e = sym (length-map es coded) ∙ ap length e.each ∙ length-map fs coded

module _ (half : ℕ) {es fs : List Entry} (same : SameBytes es fs) where
  page_same : (i : ℕ) → SameBytes (in_page half es i) (in_page half fs i)
  page_same i = record {
    each = map_in_page coded half es i ∙ ap (λ cs. in_page half cs i) same.each ∙ sym (map_in_page coded half fs i);
  }

  pub level_same : (level : ℕ) → level_bytes half level es ≡ level_bytes half level fs
  unfolding level_bytes level_cells cell_bytes
  level_same level =
      joined_rows (cell_bytes half) (λ i. tree level (in_page half es i)) (λ i. tree_bytes half level (in_page half fs i))
      (pages_for half (length es)) (λ i l. tree_same half level (page_same i))
      ∙ ap (rows (λ i. tree_bytes half level (in_page half fs i))) (ap (pages_for half) (length_same same))
      ∙ sym (joined_rows (cell_bytes half) (λ i. tree level (in_page half fs i)) (λ i. tree_bytes half level (in_page half fs i))
      (pages_for half (length fs)) (λ i l. refl))

  first_same : (i : ℕ) → u32_bytes (at (in_page half es i) 0).start ≡ u32_bytes (at (in_page half fs i) 0).start
  first_same i =
      ap (λ c. c.start) (sym (get_or-map coded (in_page half es i) 0 no_entry))
      ∙ ap (λ cs. (get_or cs 0 (coded no_entry)).start) (page_same i).each
      ∙ ap (λ c. c.start) (get_or-map coded (in_page half fs i) 0 no_entry)

  pub above_same : (first : ℕ) → SameBytes (entries_above half first es) (entries_above half first fs)
  unfolding entries_above entry_bytes
  above_same first =
      let lead : List Entry → ℕ → Entry = λ gs i. entry (at (in_page half gs i) 0).start none (first + i) in
      record {
        each = map_listed coded (pages_for half (length es)) (lead es)
            ∙ listed_same (pages_for half (length es)) (λ i. coded (lead es i)) (λ i. coded (lead fs i))
            (λ i l j. record { start = first_same i j; rest = entry_bytes (entry 0 none (first + i)) })
            ∙ ap (λ n. listed (pages_for half n) (λ i. coded (lead fs i))) (length_same same)
            ∙ sym (map_listed coded (pages_for half (length fs)) (lead fs));
      }

-- ---- all levels

pub cells_same : (half most level first : ℕ) {es fs : List Entry} → SameBytes es fs
    → concat_map (cell_bytes half) (cells half most level first es) ≡ concat_map (cell_bytes half) (cells half most level first fs)
unfolding cells level_bytes concat_map
cells_same half zero level first same = refl
cells_same half (suc most) level first {es} {fs} same =
    let b : Cell → List ℕ = cell_bytes half in
    let p : ℕ = pages_for half (length es) in
    let n : pages_for half (length es) ≡ pages_for half (length fs) = ap (pages_for half) (length_same same) in
    let above : ℕ → List Entry → List Cell = λ q gs. cells half most (suc level) (first + q) (entries_above half first gs) in
    concat_map_append b (level_cells half level es) (cond (leb p 1) [] (above p es))
    ∙ (λ j. level_same half same level j ++ go (leb p 1) (above p es) (above p fs)
    (cells_same half most (suc level) (first + p) (above_same half same first)) j)
    ∙ ap (λ q. concat_map b (level_cells half level fs) ++ concat_map b (cond (leb q 1) [] (above q fs))) n
    ∙ sym (concat_map_append b (level_cells half level fs)
    (cond (leb (pages_for half (length fs)) 1) [] (above (pages_for half (length fs)) fs)))
  where
    go : (t : Bool) (xs ys : List Cell) → concat_map (cell_bytes half) xs ≡ concat_map (cell_bytes half) ys
        → concat_map (cell_bytes half) (cond t [] xs) ≡ concat_map (cell_bytes half) (cond t [] ys)
    go true xs ys e = refl
    go false xs ys e = e
