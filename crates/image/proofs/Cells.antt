-- What a page's bytes are as a cell, and the cells that are kept: a tree page, a free page, a page that was never used. Assumes nothing.
use Prim.Native.Nat.{ℕ, ◌≤◌, ◌<◌, ◌^◌}
use mathlib.Core.Path.{◌≡◌, refl, sym, ap, ◌∙◌}
use mathlib.Core.Bool.{Bool, true, false, cond}
use mathlib.Core.List.{List}
use native.Mathlib.Omega.{arith}
use lib.Dec.{eqb}
use lib.ListN.{length}
use borrow.Author.Tests.{eq-eqb, ne_eqb}
use Rattle.fields.specs.Bytes.{Bytes, unused}
use Rattle.fields.specs.Numbers.{num, u32_at}
use Rattle.fields.proofs.Laws.Digits.{bytes_unused}
use Rattle.fields.proofs.Laws.Offsets.{u32}
use Rattle.fields.proofs.Laws.Tests.{length_unused, part_unused}
use Rattle.page.specs.declared.Entry.{Entry}
use Rattle.page.specs.Layout.{capacity, page_size, level_of, entries_of, next_of, free_level, tree_bytes, free_bytes, never_used_ok}
use Rattle.page.specs.Widths.{EntriesFit}
use Rattle.page.proofs.Laws.Trees.{bytes_tree, length_tree, level_of_tree, entries_of_tree}
use Rattle.page.proofs.Laws.Frees.{bytes_free, length_free, level_of_free, next_of_free, never_used_ok_unused, unused_again}
use Rattle.image.specs.Images.{Cell, tree, free, never_used, never_used_level, cell_of, cell_bytes, Canonical}

-- ---- a cell of bytes

module _ (half : ℕ) (s : List ℕ) where
  choice : Bool → Bool → Cell
  choice f n = cond f (free (next_of s)) (cond n never_used (tree (level_of s) (entries_of half s)))

  pub cell_free : level_of s ≡ free_level → cell_of half s ≡ free (next_of s)
  unfolding cell_of choice
  cell_free e = ap (λ t. choice t (eqb (level_of s) never_used_level)) (eq-eqb (level_of s) free_level e)

  pub cell_never : level_of s ≡ never_used_level → cell_of half s ≡ never_used
  unfolding cell_of choice
  cell_never e = λ j. choice (ne_eqb (level_of s) free_level (λ z. omega arith) j) (eq-eqb (level_of s) never_used_level e j)

  pub cell_tree : level_of s < free_level → cell_of half s ≡ tree (level_of s) (entries_of half s)
  unfolding cell_of choice
  cell_tree e = λ j. choice (ne_eqb (level_of s) free_level (λ z. omega arith) j)
      (ne_eqb (level_of s) never_used_level (λ z. omega arith) j)

  -- and back: a tree page's cell is that of its level and entries, a free page's that of its next
  chosen_tree : (f n : Bool) {l : ℕ} {es : List Entry} → choice f n ≡ tree l es → (level_of s ≡ l) × (entries_of half s ≡ es)
  unfolding choice
  chosen_tree true n e = absurd (let z : ◌≡◌ {A = ℕ} 0 1 = cc in omega arith)
  chosen_tree false true e = absurd (let z : ◌≡◌ {A = ℕ} 0 1 = cc in omega arith)
  chosen_tree false false e = (cc, cc)

  pub tree_cell : {l : ℕ} {es : List Entry} → cell_of half s ≡ tree l es → (level_of s ≡ l) × (entries_of half s ≡ es)
  unfolding cell_of choice
  tree_cell e = chosen_tree (eqb (level_of s) free_level) (eqb (level_of s) never_used_level) e

  -- and so is that of other bytes that say the same level
  chosen_again : (t : List ℕ) (f n : Bool) {l : ℕ} {es : List Entry} → choice f n ≡ tree l es
      → cond f (free (next_of t)) (cond n never_used (tree (level_of t) (entries_of half t))) ≡ tree (level_of t) (entries_of half t)
  unfolding choice
  chosen_again t true n e = absurd (let z : ◌≡◌ {A = ℕ} 0 1 = cc in omega arith)
  chosen_again t false true e = absurd (let z : ◌≡◌ {A = ℕ} 0 1 = cc in omega arith)
  chosen_again t false false e = refl

  pub tree_cell_again : (t : List ℕ) {l : ℕ} {es : List Entry} → level_of t ≡ level_of s → cell_of half s ≡ tree l es
      → cell_of half t ≡ tree (level_of t) (entries_of half t)
  unfolding cell_of choice
  tree_cell_again t same e =
      ap (λ m.
      cond (eqb m free_level) (free (next_of t))
      (cond (eqb m never_used_level) never_used (tree (level_of t) (entries_of half t)))) same
      ∙ chosen_again t (eqb (level_of s) free_level) (eqb (level_of s) never_used_level) e

  chosen_free : (f n : Bool) {next : ℕ} → choice f n ≡ free next → next_of s ≡ next
  unfolding choice
  chosen_free true n e = cc
  chosen_free false true e = absurd (let z : ◌≡◌ {A = ℕ} 0 1 = cc in omega arith)
  chosen_free false false e = absurd (let z : ◌≡◌ {A = ℕ} 0 1 = cc in omega arith)

  pub free_cell : {next : ℕ} → cell_of half s ≡ free next → next_of s ≡ next
  unfolding cell_of choice
  free_cell e = chosen_free (eqb (level_of s) free_level) (eqb (level_of s) never_used_level) e

level_unused : (n : ℕ) → 4 ≤ n → level_of (unused n) ≡ never_used_level
unfolding level_of u32_at num unused
level_unused n l = ap num (part_unused n 0 4 l)

pub never_level : (n : ℕ) (s : List ℕ) → 4 ≤ n → length s ≡ n → never_used_ok s ≡ true → level_of s ≡ never_used_level
never_level n s l e ok = ap level_of (unused_again n s e ok) ∙ level_unused n l

-- ---- the three cells

pub bytes_cell : (half : ℕ) (c : Cell) → Bytes (cell_bytes half c)
unfolding cell_bytes
bytes_cell half (tree level es) = bytes_tree half level es
bytes_cell half (free next) = bytes_free half next
bytes_cell half never_used = bytes_unused (page_size half)

pub canonical_tree : (half level : ℕ) (es : List Entry) → length es ≤ capacity half → length es < 2 ^ 32 → level < free_level
    → EntriesFit es → Canonical half (tree level es)
unfolding cell_bytes
canonical_tree half level es within narrow low fits =
    let s : List ℕ = tree_bytes half level es in
    let v : level_of s ≡ level = level_of_tree half level es within (omega arith) in
    record {
      sized = length_tree half level es within;
      again = cell_tree half s (omega arith) ∙ (λ j. tree (v j) (entries_of_tree half level es within narrow fits j));
    }

-- a tree page that is kept is kept with other entries
pub canonical_edited : (half level : ℕ) (es fs : List Entry) → Canonical half (tree level es) → length fs ≤ capacity half
    → length fs < 2 ^ 32 → EntriesFit fs → Canonical half (tree level fs)
unfolding cell_bytes level_of
canonical_edited half level es fs kept within narrow fits =
    let s : List ℕ = tree_bytes half level es in
    let t : List ℕ = tree_bytes half level fs in
    let u : level_of s ≡ level = (tree_cell half s kept.again).0 in
    let w : level_of s < 2 ^ 32 = u32.at_fits s 0 (bytes_tree half level es) in
    let v : level_of t ≡ level = level_of_tree half level fs within (omega arith) in
    record {
      sized = length_tree half level fs within;
      again = tree_cell_again half s t (v ∙ sym u) kept.again
          ∙ (λ j. tree (v j) (entries_of_tree half level fs within narrow fits j));
    }

pub canonical_free : (half next : ℕ) → next < 2 ^ 32 → Canonical half (free next)
unfolding cell_bytes
canonical_free half next narrow =
    record {
      sized = length_free half next;
      again = cell_free half (free_bytes half next) (level_of_free half next)
          ∙ ap free (next_of_free half next narrow);
    }

pub canonical_never : (half : ℕ) → Canonical half never_used
unfolding cell_bytes
canonical_never half =
    let n : ℕ = page_size half in
    record {
      sized = length_unused n;
      again = cell_never half (unused n) (never_level n (unused n) (omega arith) (length_unused n) (never_used_ok_unused n));
    }
