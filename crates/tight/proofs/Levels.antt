-- The entries of a level in its pages, and the levels one above another. Assumes nothing.
use Prim.Native.Nat.{ℕ, zero, suc, ◌+◌, ◌≤◌, ◌<◌}
use mathlib.Core.Path.{◌≡◌, refl, sym, ap, ◌∙◌}
use mathlib.Core.Bool.{Bool, true, false, cond}
use mathlib.Core.List.{List, [], ◌∷◌, ◌++◌, map}
use native.Mathlib.Omega.{arith}
use native.Mathlib.Decide.{dec_le}
use lib.ListN.{length, length-map, length-append, length-take, length-drop, get_or, get_or-append, take, drop}
use lib.Seq.{take-add, take_all, get_or-take, get_or-drop, get_or-append-add}
use borrow.Author.Tests.{le-leb, lt-leb}
use lib.Dec.{leb}
use Rattle.lists.specs.Lists.{sum, total, All}
use Rattle.lists.proofs.All.{all_take, all_drop}
use Rattle.lists.proofs.Listed.{length_listed, get_or_listed}
use Rattle.lists.proofs.Edits.{map_take, map_drop}
use Rattle.page.specs.declared.Entry.{Entry}
use Rattle.image.specs.Images.{Cell, tree, never_used}
use Rattle.tight.specs.Tight.{pages_for, page_entries, entries_before, in_page, level_cells, entries_above, level_sizes, cells}
use Rattle.tight.specs.Tight.{sizes, pages_used}
use Rattle.tight.proofs.Pages.{pages_some, pages_half, before_more, before_all, before_most}

-- ---- the pages of a level

-- how many pages, and how many entries in the i-th and before it
module _ (half m : ℕ) where
  abbrev pub pages : ℕ
  pages = pages_for half m

  abbrev pub size : ℕ → ℕ
  size i = page_entries m pages i

  abbrev pub before : ℕ → ℕ
  before i = entries_before m pages i

module _ {A : Type 0} (half : ℕ) (es : List A) where
  -- the first pages, and one more
  pub in_page_more : (i : ℕ)
      → take (before half (length es) (suc i)) es ≡ take (before half (length es) i) es ++ in_page half es i
  unfolding in_page
  in_page_more i =
      let m : ℕ = length es in
      let p : ℕ = pages_for half (length es) in
      ap (λ n. take n es) (before_more m p i) ∙ take-add (entries_before m p i) (page_entries m p i) es

  -- all pages
  pub in_page_all : 1 ≤ half → 1 ≤ length es → take (before half (length es) (pages half (length es))) es ≡ es
  in_page_all some one =
      let m : ℕ = length es in
      take_all (before half m (pages half m)) es (omega (arith, before_all m (pages half m) (pages_some half m some one)))

  module _ (i : ℕ) (some : 1 ≤ half) (lt : i < pages_for half (length es)) where
    pub length_in_page : length (in_page half es i) ≡ size half (length es) i
    unfolding in_page
    length_in_page =
        let m : ℕ = length es in
        let p : ℕ = pages_for half (length es) in
        omega (
          arith,
          length-take (page_entries m p i) (drop (entries_before m p i) es),
          length-drop (entries_before m p i) es,
          before_more m p i,
          before_most m p (omega arith) (suc i) lt,
        )

    -- the j-th of its entries
    pub at_in_page : (j : ℕ) (d : A) → j < size half (length es) i
        → get_or (in_page half es i) j d ≡ get_or es (before half (length es) i + j) d
    unfolding in_page
    at_in_page j d small =
        let m : ℕ = length es in
        get_or-take (size half m i) (drop (before half m i) es) j d small ∙ get_or-drop (before half m i) es j d

  -- a level that is one page
  pub in_page_one : 1 ≤ half → 1 ≤ length es → pages_for half (length es) ≤ 1 → in_page half es 0 ≡ es
  unfolding entries_before total
  in_page_one some one few =
      let p : ℕ = pages_for half (length es) in
      let e : p ≡ 1 = omega (arith, pages_some half (length es) some one) in
      sym (in_page_more 0) ∙ ap (λ n. take (entries_before (length es) p n) es) (sym e) ∙ in_page_all some one

-- of each entry, what f makes of it
pub map_in_page : {A B : Type 0} (f : A → B) (half : ℕ) (es : List A) (i : ℕ) → map f (in_page half es i) ≡ in_page half (map f es) i
unfolding in_page
map_in_page f half es i =
    let m : ℕ = length es in
    map_take f (size half m i) (drop (before half m i) es)
    ∙ ap (take (size half m i)) (map_drop f (before half m i) es)
    ∙ ap (λ n. take (size half n i) (drop (before half n i) (map f es))) (sym (length-map es f))

-- what holds of each entry of a level holds of each in a page
pub all_in_page : {A : Type 0} {Q : A → Type 0} (half : ℕ) (es : List A) (i : ℕ) → All Q es → All Q (in_page half es i)
unfolding in_page
all_in_page half es i a =
    let m : ℕ = length es in
    all_take (size half m i) (all_drop (before half m i) a)

pub length_level : (half level : ℕ) (es : List Entry) → length (level_cells half level es) ≡ pages_for half (length es)
unfolding level_cells
length_level half level es = length_listed _ _

pub length_above : (half first : ℕ) (es : List Entry) → length (entries_above half first es) ≡ pages_for half (length es)
unfolding entries_above
length_above half first es = length_listed _ _

-- ---- the levels above

module _ (half most m : ℕ) where
  pub sizes_one : pages_for half m ≤ 1 → level_sizes half (suc most) m ≡ pages_for half m ∷ []
  unfolding level_sizes
  sizes_one few = rw (le-leb (pages_for half m) 1 few)

  pub sizes_more : 2 ≤ pages_for half m → level_sizes half (suc most) m ≡ pages_for half m ∷ level_sizes half most (pages_for half m)
  unfolding level_sizes
  sizes_more many = rw (lt-leb (pages_for half m) 1 many)

module _ (half most level first : ℕ) (es : List Entry) where
  pub cells_more : 2 ≤ pages_for half (length es)
      → cells half (suc most) level first es
      ≡ level_cells half level es ++ cells half most (suc level) (first + pages_for half (length es)) (entries_above half first es)
  unfolding cells
  cells_more many = rw (lt-leb (pages_for half (length es)) 1 many)

  -- a page of the level
  pub cell_here : (i : ℕ) → i < pages_for half (length es)
      → get_or (cells half (suc most) level first es) i never_used ≡ tree level (in_page half es i)
  unfolding cells level_cells
  cell_here i lt =
      get_or-append (level_cells half level es) _ never_used i (omega (arith, length_level half level es))
      ∙ get_or_listed (pages_for half (length es)) (λ j. tree level (in_page half es j)) never_used i lt

  -- a page of those above
  pub cell_above : (i : ℕ) → 2 ≤ pages_for half (length es)
      → get_or (cells half (suc most) level first es) (pages_for half (length es) + i) never_used
      ≡ get_or (cells half most (suc level) (first + pages_for half (length es)) (entries_above half first es)) i never_used
  cell_above i two =
      let p : ℕ = pages_for half (length es) in
      let here : List Cell = level_cells half level es in
      let above : List Cell = cells half most (suc level) (first + p) (entries_above half first es) in
      (λ j. get_or (cells_more two j) (sym (length_level half level es) j + i) never_used) ∙ get_or-append-add here above i never_used

-- as many pages as the sizes add to
pub length_cells : (half most level first : ℕ) (es : List Entry)
    → length (cells half most level first es) ≡ sum (λ p. p) (level_sizes half most (length es))
unfolding cells level_sizes sum
length_cells half zero level first es = refl
length_cells half (suc most) level first es =
    let p : ℕ = pages_for half (length es) in
    let here : length (level_cells half level es) ≡ p = length_level half level es in
    let rest : length (cells half most (suc level) (first + p) (entries_above half first es)) ≡ sum (λ q. q) (level_sizes half most p) =
    length_cells half most (suc level) (first + p) (entries_above half first es)
    ∙ ap (λ n. sum (λ q. q) (level_sizes half most n)) (length_above half first es) in
    length-append (level_cells half level es) (cond (leb p 1) [] (cells half most (suc level) (first + p) (entries_above half first es)))
    ∙ go (leb p 1) (cells half most (suc level) (first + p) (entries_above half first es)) (level_sizes half most p) here rest
  where
    go : (b : Bool) (xs : List Cell) (ns : List ℕ) {k p : ℕ} → k ≡ p → length xs ≡ sum (λ q. q) ns
        → k + length (cond b [] xs) ≡ p + sum (λ q. q) (cond b [] ns)
    go true xs ns e f = omega arith
    go false xs ns e f = omega arith

-- ---- all levels together

-- the leaves are among all pages
pub leaves_used : (half m : ℕ) → 1 ≤ m → pages_for half m ≤ pages_used half m
unfolding pages_used sizes level_sizes sum
leaves_used half zero one = absurd (omega arith)
leaves_used half (suc m) one = omega arith

-- with four entries to a page there are no more pages than entries
sizes_few : (half most m : ℕ) → 2 ≤ half → 1 ≤ m → sum (λ p. p) (level_sizes half most m) ≤ m
unfolding level_sizes sum
sizes_few half zero m two one = omega arith
sizes_few half (suc most) m two one = go (dec_le (pages_for half m) 1) (sizes_few half most (pages_for half m) two)
  where
    go : Dec (pages_for half m ≤ 1)
        → (1 ≤ pages_for half m → sum (λ p. p) (level_sizes half most (pages_for half m)) ≤ pages_for half m)
        → sum (λ p. p) (level_sizes half (suc most) m) ≤ m
    go (yes few) above = omega (arith, ap (sum (λ p. p)) (sizes_one half most m few))
    go (no many) above =
        omega (
          arith,
          ap (sum (λ p. p)) (sizes_more half most m (omega arith)),
          above (omega arith),
          pages_half half m two (omega arith),
        )

pub used_few : (half m : ℕ) → 2 ≤ half → 1 ≤ m → pages_used half m ≤ m
unfolding pages_used sizes
used_few half m two one = sizes_few half m m two one
