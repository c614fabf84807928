-- A tree page's entries, read from its bytes: their number, one of them, where it ends, and the one that has an instant. Assumes nothing.
use Prim.Native.Nat.{ℕ, suc, ◌+◌, ◌*◌, ◌≤◌, ◌<◌}
use mathlib.Core.Path.{◌≡◌, sym, ap, ◌∙◌, subst⁻¹}
use mathlib.Core.List.{List}
use native.Mathlib.Omega.{arith}
use lib.Dec.{ltb}
use lib.ListN.{length, drop, drop_of_length-le}
use lib.Seq.{drop-cons}
use borrow.Author.Tests.{ltb-true, ltb-false}
use Rattle.lists.proofs.Choices.{cond_one}
use Rattle.page.specs.declared.Entry.{Entry}
use Rattle.page.specs.declared.Page.{Page}
use Rattle.page.specs.Decoded.{entry_list}
use Rattle.page.specs.Entries.{at, no_entry, index_of}
use Rattle.page.specs.Fit.{end_at}
use Rattle.page.specs.Layout.{capacity, page_size, entry_count, start_at, entry_at, entries_of}
use Rattle.page.proofs.Laws.Indices.{index_in}
use Rattle.page.proofs.Laws.Trees.{at_entries_of}
use Rattle.image.specs.Images.{Image, page_at}
use Rattle.lookup.specs.declared.FoundAt.{FoundAt}
use Rattle.lookup.specs.Levels.{PageSearchable, IndexFound, EntryFound}
use Rattle.edit.proofs.Edits.{has_len}
use Rattle.steps.specs.Supply.{entries}
use Rattle.steps.specs.Combine.{next_start, end_in}
use Rattle.store.specs.Encoding.{Encodes, Loaded}
use Rattle.store.specs.Preconditions.{TreePage, HasEntry, Searchable, found_in}
use Rattle.store.proofs.Encoding.{TreeRead, tree_read, holds_within, holds_size}

-- a page that can be searched has the entry that is found
pub searchable_entry : {l p t : ℕ} {X : Image} → Searchable l p t X → HasEntry l p (index_of t (entries X p)) X
searchable_entry {p = p} {t} {X} s = record { tree_page = s.tree_page; inside = index_in t (entries X p) s.some }

-- ---- a decoded page

pub loaded_len : {half l : ℕ} {es : List Entry} {r : Page} → Loaded half l es r → r.len ≡ length es
loaded_len s = has_len s.shows

pub loaded_at : {half l : ℕ} {es : List Entry} {r : Page} {e : Entry} (i : ℕ) → Loaded half l es r → e ≡ at (entry_list r) i → e ≡ at es i
loaded_at i s e = e ∙ ap (λ es. at es i) s.shows.entries

-- ---- the page's bytes, lent as s

module _ {half : ℕ} {img : List ℕ} {X : Image} {l p : ℕ} (h : Encodes half img X) (t : TreePage l p X) where
  pub lent_within : page_size half * p + page_size half ≤ length img
  lent_within = holds_within h t.within

  module _ {s : List ℕ} (same : s ≡ page_at half img p) where
    pub lent_size : length s ≡ page_size half
    lent_size = holds_size h t.within same

    pub lent_read : TreeRead half s l (entries X p)
    lent_read = subst⁻¹ (λ b. TreeRead half b l (entries X p)) same (tree_read h t)

    pub lent_count : {n : ℕ} → n ≡ entry_count s → (n ≡ length (entries X p)) × (n ≤ capacity half)
    lent_count e = let r = lent_read in (e ∙ r.len, omega (arith, r.len, r.few))

    pub lent_entry : (i : ℕ) → i < length (entries X p) → entry_at half s i ≡ at (entries X p) i
    lent_entry i n =
        let r = lent_read in
        sym (at_entries_of half s i (omega (arith, r.len)) (omega (arith, r.few))) ∙ ap (λ es. at es i) r.entries

    -- where the i-th entry ends: at the next one's start, the last at the page's own end
    pub lent_end : (hi i : ℕ) → end_at s hi i ≡ end_in hi (entries X p) i
    unfolding end_at entry_at next_start
    lent_end hi i =
        let es : List Entry = entries X p in
        let size = lent_read.len in
        cond_one (λ (end : ℕ). end ≡ next_start hi (drop (suc i) es)) (ltb (suc i) (entry_count s))
        (λ t.
        let n : suc i < length es = omega (arith, ltb-true) in
        ap (λ (e : Entry). e.start) (lent_entry (suc i) n) ∙ sym (ap (next_start hi) (drop-cons es (suc i) no_entry n)))
        (λ f. let n : length es ≤ suc i = omega (arith, ltb-false) in sym (ap (next_start hi) (drop_of_length-le es n)))

    pub lent_slot : {i : ℕ} (instant : ℕ) → i ≡ index_of instant (entries_of half s) → i ≡ index_of instant (entries X p)
    lent_slot instant e = e ∙ ap (index_of instant) lent_read.entries

module _ {half : ℕ} {img : List ℕ} {X : Image} {l p t : ℕ} (h : Encodes half img X) (k : Searchable l p t X) {s : List ℕ}
    (same : s ≡ page_at half img p) where
  start_is : (i : ℕ) → i < length (entries X p) → start_at s i ≡ (at (entries X p) i).start
  unfolding entry_at
  start_is i n = ap (λ (e : Entry). e.start) (lent_entry h k.tree_page same i n)

  pub lent_searched : {n : ℕ} → n ≡ entry_count s → PageSearchable s n t
  lent_searched {n} e =
      let r = lent_read h k.tree_page same in
      record {
        len = e;
        some = omega (arith, r.len, k.some);
        inside = omega (arith, lent_size h k.tree_page same, r.len, r.few);
        rising =
            λ i m.
            let j : suc i < length (entries X p) = omega (arith, r.len) in
            omega (arith, start_is i (omega arith), start_is (suc i) j, k.rising i j);
        first = omega (arith, start_is 0 k.some, k.first);
      }

  pub lent_found : {n hi : ℕ} {f : FoundAt} {e : Entry} → n ≡ entry_count s → EntryFound hi t s f → e ≡ entry_at half s f.index
      → record { count = n; index = f.index; entry = e; end = f.end } ≡ found_in hi t (entries X p)
  unfolding found_in
  lent_found {n} {hi} {f} {e} a b c =
      let r = lent_read h k.tree_page same in
      let es : List Entry = entries X p in
      let here : f.index ≡ index_of t es = lent_slot h k.tree_page same t (b.index half (omega (arith, r.len, r.few))) in
      let found : e ≡ at es (index_of t es) =
      c ∙ ap (entry_at half s) here ∙ lent_entry h k.tree_page same (index_of t es) (index_in t es k.some) in
      let ends : f.end ≡ end_in hi es (index_of t es) =
      b.end ∙ ap (end_at s hi) here ∙ lent_end h k.tree_page same hi (index_of t es) in
      let count : n ≡ length es = a ∙ r.len in
      λ j. record { count = count j; index = here j; entry = found j; end = ends j }

  pub lent_inside : {i : ℕ} → IndexFound t s i → i < capacity half
  lent_inside {i} b =
      let r = lent_read h k.tree_page same in
      let here = lent_slot h k.tree_page same t (b half (omega (arith, r.len, r.few))) in
      omega (arith, here, index_in t (entries X p) k.some, r.few)
