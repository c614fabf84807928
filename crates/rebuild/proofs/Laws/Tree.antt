-- The levels of a tree, written one behind another: the leaves, one more, all. Assumes nothing.
use Prim.Native.Nat.{ℕ, zero, suc, ◌+◌, ◌*◌, ◌≤◌, ◌<◌}
use mathlib.Core.Path.{◌≡◌, refl, sym, ap, ◌∙◌}
use mathlib.Core.Bool.{Bool, true, false, cond}
use mathlib.Core.List.{List, [], ◌++◌, append_assoc, append-nil}
use native.Mathlib.Nat.{mul-suc}
use native.Mathlib.Numerals.{add-one}
use native.Mathlib.Omega.{arith}
use lib.Dec.{leb}
use lib.ListN.{length, length-append}
use lib.Seq.{get_or-append-add}
use borrow.Author.Tests.{le-leb, lt-leb}
use Rattle.lists.specs.Lists.{listed, concat_map, sum, All, all_none}
use Rattle.lists.proofs.Listed.{length_listed, get_or_listed, listed_same}
use Rattle.lists.proofs.Concat.{concat_map_append}
use Rattle.lists.proofs.Edits.{map_listed}
use Rattle.lists.proofs.All.{all_append, all_listed}
use Rattle.rule.specs.Pairs.{none}
use Rattle.fields.specs.Bytes.{part, patch}
use Rattle.fields.specs.Numbers.{u32_bytes}
use Rattle.fields.proofs.Laws.Parts.{patch_patch_next}
use Rattle.page.specs.declared.Entry.{Entry}
use Rattle.page.specs.Entries.{entry, at}
use Rattle.page.specs.Layout.{capacity, page_size, start_at, entry_bytes, tree_bytes}
use Rattle.page.proofs.Laws.Concat.{length_sized}
use Rattle.page.proofs.Laws.Trees.{length_tree}
use Rattle.image.specs.Images.{Cell, tree, never_used, page_at, cell_bytes}
use Rattle.tight.specs.Tight.{pages_for, in_page, level_cells, entries_above, level_sizes, sizes, pages_used, cells}
use Rattle.tight.proofs.Pages.{pages_some, page_most, page_some}
use Rattle.tight.proofs.Levels.{length_in_page, length_level, length_above, length_cells}
use Rattle.rebuild.specs.Levels.{run_entries, page_entry, page_entries_from, level_bytes}
use Rattle.rebuild.proofs.Laws.Sizes.{fewer}
use Rattle.rebuild.proofs.Laws.Sized.{patched_sized, first_start}
use Rattle.rebuild.proofs.Laws.Coded.{coded, SameBytes, level_same}

-- a page's bytes
abbrev pub PageSized : ℕ → Cell → Type 0
PageSized half c = length (cell_bytes half c) ≡ page_size half

-- ---- one level

module _ (half level : ℕ) (es : List Entry) (some : 1 ≤ half) (one : 1 ≤ length es) where
  in_room : (i : ℕ) → i < pages_for half (length es) → length (in_page half es i) ≤ capacity half
  in_room i h = omega (arith, length_in_page half es i some h, page_most half (length es) some one i)

  level_sized : All (PageSized half) (level_cells half level es)
  unfolding level_cells cell_bytes
  level_sized = all_listed (pages_for half (length es)) (λ i. tree level (in_page half es i))
      (λ i h. length_tree half level (in_page half es i) (in_room i h))

  -- the entries that lead to the pages of a level, as its bytes show them
  lead_same : (t : List ℕ) (below n : ℕ) → n ≡ pages_for half (length es)
      → ((j : ℕ) → j < n → page_at half t (below + j) ≡ tree_bytes half level (in_page half es j))
      → SameBytes (page_entries_from half t below n) (entries_above half below es)
  unfolding page_entries_from page_entry entries_above entry_bytes
  lead_same t below n counted shown =
      let f : ℕ → Entry = λ j. entry (start_at (page_at half t (below + j)) 0) none (below + j) in
      let g : ℕ → Entry = λ j. entry (at (in_page half es j) 0).start none (below + j) in
      record {
        each = map_listed coded n f
            ∙ listed_same n (λ j. coded (f j)) (λ j. coded (g j)) (λ j h.
            let l : j < pages_for half (length es) = omega arith in
            let first : u32_bytes (f j).start ≡ u32_bytes (g j).start =
            ap (λ p. u32_bytes (start_at p 0)) (shown j h)
            ∙ first_start half level (in_page half es j) some
            (omega (arith, length_in_page half es j some l, page_some half (length es) some one j l)) (in_room j l) in
            λ x. record { start = first x; rest = entry_bytes (entry 0 none (below + j)) })
            ∙ ap (λ k. listed k (λ j. coded (g j))) counted
            ∙ sym (map_listed coded (pages_for half (length es)) g);
      }

-- ---- all levels

pub cells_sized : (half most level first : ℕ) (es : List Entry) → 1 ≤ half → 1 ≤ length es
    → All (PageSized half) (cells half most level first es)
unfolding cells
cells_sized half zero level first es some one = all_none
cells_sized half (suc most) level first es some one =
    let p : ℕ = pages_for half (length es) in
    all_append (level_sized half level es some one)
    (go (leb p 1)
    (cells_sized half most (suc level) (first + p) (entries_above half first es) some
    (omega (arith, length_above half first es, pages_some half (length es) some one))))
  where
    go : (t : Bool) {xs : List Cell} → All (PageSized half) xs → All (PageSized half) (cond t [] xs)
    go true a = all_none
    go false a = a

-- the pages of the levels above one with n pages
abbrev above : ℕ → ℕ → ℕ → ℕ → ℕ → List Entry → List Cell
above half most n level below es = cond (leb n 1) [] (cells half most (suc level) (below + n) (entries_above half below es))

-- the level above, and those above that
record NextLevel (half most n p level below : ℕ) (es : List Entry) : Type 0 where
  rest : ℕ
  enough : 2 ≤ p → p ≤ rest
  split : above half most n level below es
      ≡ level_cells half (suc level) (entries_above half below es)
      ++ above half rest p (suc level) (below + n) (entries_above half below es)

next_level : (half most n p level below : ℕ) (es : List Entry) → 2 ≤ half → 2 ≤ n → n ≤ most → n ≡ pages_for half (length es)
    → p ≡ pages_for half n → NextLevel half most n p level below es
unfolding cells
next_level half zero n p level below es two many most counted up = absurd (omega arith)
next_level half (suc most) n p level below es two many more counted up =
    let fs : List Entry = entries_above half below es in
    let e : p ≡ pages_for half (length fs) = up ∙ ap (pages_for half) (counted ∙ sym (length_above half below es)) in
    record {
      rest = most;
      enough = λ h. omega (arith, fewer half two n (omega arith) (omega arith));
      split = ap (λ t. cond t [] (cells half (suc most) (suc level) (below + n) fs)) (lt-leb n 1 many)
          ∙ ap (λ q. level_cells half (suc level) fs ++ above half most q (suc level) (below + n) fs) (sym e);
    }

-- The tree of m runs that were listed in s is written up to a level that has n pages from page `below` on.
pub record Grown (half m : ℕ) (s : List ℕ) (n level below : ℕ) (t : List ℕ) : Type 0 where
  pub es : List Entry
  pub most : ℕ
  pub done : List Cell
  pub filled : 1 ≤ length es
  pub counted : n ≡ pages_for half (length es)
  pub enough : 2 ≤ n → n ≤ most
  pub low : level < below
  pub place : below ≡ suc (length done)
  pub sized : All (PageSized half) done
  pub long : length t ≡ length s
  pub bytes : t ≡ patch s (page_size half) (concat_map (cell_bytes half) (done ++ level_cells half level es))
  pub whole : cells half m 0 1 (run_entries s m) ≡ (done ++ level_cells half level es) ++ above half most n level below es

module _ (half : ℕ) (s : List ℕ) (two : 2 ≤ half) where
  length_runs : (m : ℕ) → length (run_entries s m) ≡ m
  unfolding run_entries
  length_runs m = length_listed m _

  pub grown_none : (m : ℕ) {n : ℕ} {t : List ℕ} → 1 ≤ m → n ≡ pages_for half m → length t ≡ length s
      → t ≡ patch s (page_size half) (level_bytes half 0 (run_entries s m)) → Grown half m s n 0 1 t
  unfolding level_bytes cells
  grown_none zero one counted long wrote = absurd (omega arith)
  grown_none (suc m) {n} {t} one counted long wrote =
      let es : List Entry = run_entries s (suc m) in
      let e : n ≡ pages_for half (length es) = counted ∙ ap (pages_for half) (sym (length_runs (suc m))) in
      record {
        es = es;
        most = m;
        done = [];
        filled = omega (arith, length_runs (suc m));
        counted = e;
        enough = λ many. omega (arith, fewer half two (suc m) one (omega arith));
        low = omega arith;
        place = refl;
        sized = all_none;
        long = long;
        bytes = wrote;
        whole = ap (λ k. level_cells half 0 es ++ cond (leb k 1) [] (cells half m 1 (1 + k) (entries_above half 1 es))) (sym e);
      }

  module _ (m : ℕ) (room : page_size half * suc (pages_used half m) ≤ length s) where
    length_whole : length (cells half m 0 1 (run_entries s m)) ≡ pages_used half m
    unfolding pages_used sizes
    length_whole = length_cells half m 0 1 (run_entries s m) ∙ ap (λ k. sum (λ p. p) (level_sizes half m k)) (length_runs m)

    -- the next level has room
    pub grown_room : {n level below p : ℕ} {t : List ℕ} → Grown half m s n level below t → 2 ≤ n → p ≡ pages_for half n
        → below + n + p ≤ suc (pages_used half m)
    grown_room {n} {level} {below} {p} g many up =
        let half_some : 1 ≤ half = omega arith in
        let fs : List Entry = entries_above half below g.es in
        let lf : length fs ≡ n = length_above half below g.es ∙ sym g.counted in
        let v : NextLevel half g.most n p level below g.es =
        next_level half g.most n p level below g.es two many (g.enough many) g.counted up in
        let rest : List Cell = above half v.rest p (suc level) (below + n) fs in
        let here : List Cell = level_cells half level g.es in
        let up_cells : List Cell = level_cells half (suc level) fs in
        omega (
          arith,
          ap length g.whole,
          length_whole,
          length-append (g.done ++ here) (above half g.most n level below g.es),
          length-append g.done here,
          length_level half level g.es,
          g.counted,
          g.place,
          ap length v.split,
          length-append up_cells rest,
          length_level half (suc level) fs,
          ap (pages_for half) lf,
        )

    -- the pages of the level stand in the image
    shown : {n level below : ℕ} {t : List ℕ} (g : Grown half m s n level below t) (j : ℕ) → j < n
        → page_at half t (below + j) ≡ tree_bytes half level (in_page half g.es j)
    unfolding page_at level_cells cell_bytes
    shown {n} {level} {below} {t} g j h =
        let k : ℕ = page_size half in
        let half_some : 1 ≤ half = omega arith in
        let here : List Cell = level_cells half level g.es in
        let i : ℕ = length g.done + j in
        let e : below + j ≡ suc i = omega (arith, g.place) in
        let ln : length here ≡ pages_for half (length g.es) = length_level half level g.es in
        let inside : i < length (g.done ++ here) = omega (arith, length-append g.done here, g.counted) in
        (λ x. part (g.bytes x) (k * e x) k)
        ∙ patched_sized (cell_bytes half) k s never_used i
        (all_append g.sized (level_sized half level g.es half_some g.filled)) inside
        (omega (arith, mul-suc k (pages_used half m)))
        ∙ ap (cell_bytes half)
        (get_or-append-add g.done here j never_used
        ∙ get_or_listed (pages_for half (length g.es)) (λ x. tree level (in_page half g.es x)) never_used j (omega (arith, g.counted)))

    pub grown_more : {n level below p : ℕ} {t u : List ℕ} → Grown half m s n level below t → 2 ≤ n → p ≡ pages_for half n
        → length u ≡ length t
        → u ≡ patch t (page_size half * (below + n)) (level_bytes half (level + 1) (page_entries_from half t below n))
        → Grown half m s p (level + 1) (below + n) u
    unfolding level_bytes
    grown_more {n} {level} {below} {p} {t} {u} g many up long wrote =
        let k : ℕ = page_size half in
        let b : Cell → List ℕ = cell_bytes half in
        let half_some : 1 ≤ half = omega arith in
        let fs : List Entry = entries_above half below g.es in
        let lf : length fs ≡ n = length_above half below g.es ∙ sym g.counted in
        let v : NextLevel half g.most n p level below g.es =
        next_level half g.most n p level below g.es two many (g.enough many) g.counted up in
        let here : List Cell = level_cells half level g.es in
        let done : List Cell = g.done ++ here in
        let next : List Cell = level_cells half (suc level) fs in
        let ld : length done ≡ length g.done + n =
        length-append g.done here
        ∙ ap (λ x. length g.done + x) (length_level half level g.es ∙ sym g.counted) in
        let sized : All (PageSized half) done = all_append g.sized (level_sized half level g.es half_some g.filled) in
        let place : below + n ≡ suc (length done) = omega (arith, g.place) in
        let behind : k + length (concat_map b done) ≡ k * (below + n) =
        omega (arith, length_sized b k sized, ap (λ x. k * x) place, mul-suc k (length done)) in
        rw (add-one level)
        (record {
          es = fs;
          most = v.rest;
          done = done;
          filled = omega arith;
          counted = up ∙ ap (pages_for half) (sym lf);
          enough = v.enough;
          low = omega (arith, g.low);
          place = place;
          sized = sized;
          long = long ∙ g.long;
          bytes = wrote
              ∙ ap (λ l. patch t (k * (below + n)) (level_bytes half l (page_entries_from half t below n))) (add-one level)
              ∙ (λ x. patch (g.bytes x) (k * (below + n))
              (level_same half (lead_same half level g.es half_some g.filled t below n g.counted (shown g)) (suc level) x))
              ∙ patch_patch_next s k (concat_map b done) (concat_map b next) (k * (below + n)) behind
              (omega (arith, mul-suc k (pages_used half m)))
              ∙ ap (patch s k) (sym (concat_map_append b done next));
          whole = g.whole
              ∙ ap (λ x. done ++ x) v.split
              ∙ sym (append_assoc done next (above half v.rest p (suc level) (below + n) fs));
        })

    pub grown_all : {n level below : ℕ} {t : List ℕ} → Grown half m s n level below t → n ≤ 1
        → t ≡ patch s (page_size half) (concat_map (cell_bytes half) (cells half m 0 1 (run_entries s m)))
    grown_all {n} {level} {below} g few =
        let done : List Cell = g.done ++ level_cells half level g.es in
        let rest : List Cell = cells half g.most (suc level) (below + n) (entries_above half below g.es) in
        g.bytes
        ∙ ap (λ l. patch s (page_size half) (concat_map (cell_bytes half) l))
        (sym (g.whole ∙ ap (λ t. done ++ cond t [] rest) (le-leb n 1 few) ∙ append-nil done))
