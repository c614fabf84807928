-- The pages of a level as pieces of one size. Assumes nothing.
use Prim.Native.Nat.{ℕ, suc, ◌+◌, ◌*◌, ◌/◌, ◌%◌, ◌≤◌, ◌<◌}
use mathlib.Core.Path.{◌≡◌, sym, ap, ◌∙◌}
use mathlib.Core.Bool.{cond}
use mathlib.Core.List.{List}
use native.Mathlib.Nat.{mul_comm, mul_assoc, mul-le-mul_right}
use native.Mathlib.Omega.{arith}
use lib.ListN.{length, get_or}
use lib.Dec.{ltb}
use Rattle.lists.specs.Lists.{listed, concat_map}
use Rattle.lists.proofs.Listed.{length_listed, get_or_listed, listed_same, listed_get_or}
use Rattle.page.specs.declared.Entry.{Entry}
use Rattle.page.specs.Entries.{no_entry}
use Rattle.page.specs.Layout.{capacity, page_size, tree_bytes}
use Rattle.page.proofs.Laws.Trees.{length_tree}
use Rattle.image.specs.Images.{tree, cell_bytes}
use Rattle.image.proofs.Rows.{rows}
use Rattle.tight.specs.Tight.{pages_for, page_entries, in_page, level_cells}
use Rattle.tight.proofs.Pages.{pages_some, before_more, before_most, before_room, page_most, size_least}
use Rattle.tight.proofs.Levels.{pages, size, before, length_in_page, at_in_page}
use Rattle.rebuild.specs.Levels.{level_bytes}
use Rattle.rebuild.proofs.Laws.Pieces.{joined_rows}

module _ (half m : ℕ) where
  -- the runs of the first pages take no more bytes than these
  pub runs_room : 1 ≤ half → 1 ≤ m → (i : ℕ) → 16 * before half m i ≤ page_size half * i
  runs_room some one i =
      let k : ℕ = capacity half in
      let a : 16 * k * i ≤ page_size half * i = mul-le-mul_right i (omega arith) in
      omega (arith, before_room half m some one i, mul_assoc 16 k i, mul_comm i k)

  -- what the code divides by
  module _ {p : ℕ} (counted : p ≡ pages half m) where
    pub some_pages : 1 ≤ half → 1 ≤ m → 1 ≤ p
    some_pages some one = omega (arith, pages_some half m some one)

    pub least_few : 1 ≤ half → 1 ≤ m → m / p ≤ capacity half
    least_few some one = omega (arith, ap (λ q. m / q) counted, size_least m (pages half m) 0, page_most half m some one 0)

    pub size_told : (i : ℕ) {n : ℕ} → n ≡ m / p + cond (ltb i (m % p)) 1 0 → n ≡ size half m i
    unfolding page_entries
    size_told i e = e ∙ ap (λ q. m / q + cond (ltb i (m % q)) 1 0) counted

-- the entries of the i-th page, f giving those of the level, and its bytes
abbrev pub page_of : ℕ → ℕ → (ℕ → Entry) → ℕ → List Entry
page_of half m f i = listed (size half m i) (λ j. f (before half m i + j))

abbrev pub piece : ℕ → ℕ → (ℕ → Entry) → ℕ → ℕ → List ℕ
piece half m f level i = tree_bytes half level (page_of half m f i)

module _ (half m : ℕ) (f : ℕ → Entry) (some : 1 ≤ half) (one : 1 ≤ m) where
  within : (i j : ℕ) → i < pages half m → j < size half m i → before half m i + j < m
  within i j h l =
      omega (
        arith,
        before_more m (pages half m) i,
        before_most m (pages half m) (pages_some half m some one) (suc i) h,
      )

  in_page_listed : (i : ℕ) → i < pages half m → in_page half (listed m f) i ≡ page_of half m f i
  in_page_listed i h =
      let es : List Entry = listed m f in
      let n : length es ≡ m = length_listed m f in
      let h' : i < pages_for half (length es) = rw n h in
      sym (listed_get_or (in_page half es i) no_entry)
      ∙ ap (λ k. listed k (λ j. get_or (in_page half es i) j no_entry)) (length_in_page half es i some h' ∙ ap (λ k. size half k i) n)
      ∙ listed_same (size half m i) (λ j. get_or (in_page half es i) j no_entry) (λ j. f (before half m i + j))
      (λ j l.
      at_in_page half es i some h' j no_entry (rw n l)
      ∙ ap (λ k. get_or es (before half k i + j) no_entry) n
      ∙ get_or_listed m f no_entry (before half m i + j) (within i j h l))

  pub length_piece : (level i : ℕ) → length (piece half m f level i) ≡ page_size half
  length_piece level i =
      length_tree half level (page_of half m f i)
      (omega (arith, page_most half m some one i, length_listed (size half m i) (λ j. f (before half m i + j))))

  pub level_pieces : (level : ℕ) → level_bytes half level (listed m f) ≡ rows (piece half m f level) (pages half m)
  unfolding level_bytes level_cells cell_bytes
  level_pieces level =
      let es : List Entry = listed m f in
      ap (λ k. concat_map (cell_bytes half) (listed (pages half k) (λ i. tree level (in_page half es i)))) (length_listed m f)
      ∙ joined_rows (cell_bytes half) (λ i. tree level (in_page half es i)) (piece half m f level) (pages half m)
      (λ i h. ap (tree_bytes half level) (in_page_listed i h))
