-- From an entry of a sound image to the page below: what may be read there, and what is found. Assumes nothing.
use Prim.Native.Nat.{ℕ, zero, suc, ◌-◌, ◌≤◌, ◌<◌}
use mathlib.Core.Path.{◌≡◌, refl, sym, ap, ◌∙◌, subst, subst⁻¹}
use mathlib.Core.List.{List}
use native.Mathlib.Omega.{arith}
use lib.ListN.{length}
use Rattle.page.specs.declared.Entry.{Entry}
use Rattle.page.specs.Entries.{at as entry_in, index_of}
use Rattle.page.specs.Layout.{capacity, level_of, entry_count, start_at, entry_at, entries_of}
use Rattle.page.specs.Fit.{end_at, context_below, most_height}
use Rattle.page.proofs.Laws.Trees.{length_entries_of, at_entries_of}
use Rattle.fit.proofs.Laws.Spans.{found_ends, found_only}
use Rattle.fit.proofs.Laws.Pages.{PageFit, entry_first}
use Rattle.image.specs.Images.{tree, entries_in, page_at, image_of}
use Rattle.soundness.proofs.Tree.{tree_parts}
use Rattle.page.proofs.Laws.Indices.{index_within, index_started}
use Rattle.store.specs.declared.Found.{Found}
use Rattle.store.specs.Encoding.{PreLevel, PostLevel}
use Rattle.store.specs.Preconditions.{Searchable, found_in}
use Rattle.store.proofs.Encoding.{holds_pages}
use Rattle.soundness.proofs.Tree.{tree_top}
use Rattle.store.proofs.Reading.{lent_end}
use Rattle.steps.specs.Supply.{entries}
use Rattle.steps.specs.Combine.{end_in}
use Rattle.image.proofs.Cells.{cell_tree}
use Rattle.page_need.specs.Leads.{FitFrom, Leads}

-- ---- a page

module _ {half : ℕ} {img : List ℕ} {t hi l p : ℕ} (k : FitFrom half img t hi l p) where
  page_is_fit : PageFit half k.head k.at (page_at half img p)
  page_is_fit = tree_top half k.head img l k.at p k.fit

  entries_read : entries (image_of half img) p ≡ entries_of half (page_at half img p)
  unfolding entries image_of entries_in
  entries_read = ap entries_in (cell_tree half (page_at half img p) (omega (arith, page_is_fit.level, k.level, k.low)))

  number_read : length (entries (image_of half img) p) ≡ entry_count (page_at half img p)
  number_read = ap length entries_read ∙ length_entries_of half (page_at half img p) ∙ omega (arith, page_is_fit.most)

  page_read : (image_of half img).page p ≡ tree l (entries (image_of half img) p)
  unfolding image_of
  page_read =
      let s : List ℕ = page_at half img p in
      let level : level_of s ≡ l = page_is_fit.level ∙ k.level in
      cell_tree half s (omega (arith, k.low)) ∙ (λ j. tree (level j) (sym entries_read j))

  start_read : (i : ℕ) → i < length (entries (image_of half img) p)
      → start_at (page_at half img p) i ≡ (entry_in (entries (image_of half img) p) i).start
  unfolding entry_at
  start_read i n =
      let s : List ℕ = page_at half img p in
      let most : entry_count s ≤ capacity half = page_is_fit.most in
      let here = at_entries_of half s i (omega (arith, number_read)) (omega (arith, number_read)) in
      ap (λ (e : Entry). e.start) (sym here ∙ ap (λ es. entry_in es i) (sym entries_read))

  -- the page can be searched for t
  pub fit_searchable : Searchable l p t (image_of half img)
  fit_searchable =
      let f = page_is_fit in
      let n = number_read in
      let some : 1 ≤ length (entries (image_of half img) p) = omega (arith, entry_first f (omega (arith, k.holds.half_least))) in
      record {
        tree_page =
            record {
              within = record { least = k.least; below = omega (arith, holds_pages k.holds, k.size, k.inside) };
              page = page_read;
            };
        some = some;
        rising = λ i m. omega (arith, start_read i (omega arith), start_read (suc i) m, f.rising i (omega arith));
        first = omega (arith, start_read 0 some, f.first, k.begun);
      }

-- the i-th entry of a page leads on
entry_leads : {half : ℕ} {img : List ℕ} {t hi : ℕ} (l : ℕ) {p : ℕ} (k : FitFrom half img t hi l p) (i : ℕ)
    → i < entry_count (page_at half img p) → start_at (page_at half img p) i ≤ t
    → Leads half img t (end_at (page_at half img p) k.at.hi i) l (entry_at half (page_at half img p) i)
unfolding Leads entry_at context_below
entry_leads zero k i lt begun = tt
entry_leads {half} {img} (suc l) {p} k i lt begun =
    record {
      head = k.head;
      at = context_below half (page_at half img p) k.at i;
      size = k.size;
      holds = k.holds;
      least = (((page_is_fit k).children i lt).inner (omega (arith, k.level))).0;
      inside = (((page_is_fit k).children i lt).inner (omega (arith, k.level))).1;
      level = omega (arith, k.level);
      low = omega (arith, k.low);
      begun = begun;
      ends = refl;
      fit = (tree_parts half k.head img l k.at p k.fit).1 i lt;
    }

-- ---- an entry

pub leads_low : (half : ℕ) (img : List ℕ) (t hi l : ℕ) (e : Entry) → Leads half img t hi l e → l ≤ most_height
unfolding Leads
leads_low half img t hi zero e k = omega arith
leads_low half img t hi (suc l) e k = omega (arith, k.low)

-- an inner one
pub leads_on : {half : ℕ} {img : List ℕ} {t hi l : ℕ} (e : Entry) → Leads half img t hi l e → ¬ (l ≡ 0)
    → FitFrom half img t hi (l - 1) e.child
unfolding Leads
leads_on {half} {img} {t} {hi} {l} e k h =
    let above : l ≡ suc (l - 1) = omega arith in
    subst (λ n. Leads half img t hi n e) above k

-- for a later instant too
pub later_fit : {half : ℕ} {img : List ℕ} {s t hi l p : ℕ} → FitFrom half img s hi l p → s < t → FitFrom half img t hi l p
later_fit k lt =
    record {
      head = k.head;
      at = k.at;
      holds = k.holds;
      size = k.size;
      least = k.least;
      inside = k.inside;
      level = k.level;
      low = k.low;
      begun = omega (arith, k.begun);
      ends = k.ends;
      fit = k.fit;
    }

pub fit_some : {half : ℕ} {img : List ℕ} {t hi l p : ℕ} → FitFrom half img t hi l p → PreLevel half img (λ v. Searchable v p t)
fit_some {half} {img} {l = l} k = record { image = image_of half img; holds = k.holds; ready = (l, fit_searchable k) }

-- what was found in its page, which ends at hi: any search that find_entry's contract allows
pub record FoundBelow (half : ℕ) (img : List ℕ) (hi t l : ℕ) (e : Entry) (m : Found) : Type 0 where
  pub inner : ¬ (l ≡ 0)
  pub page : FitFrom half img t hi (l - 1) e.child
  pub is : m ≡ found_in hi t (entries (image_of half img) e.child)

abbrev Finds : ℕ → List ℕ → ℕ → ℕ → ℕ → Found → Type 0
Finds half img hi t p m = PostLevel half img (λ v. Searchable v p t) (λ v X. m ≡ found_in hi t (entries X p))

found_at : {half : ℕ} {img : List ℕ} {hi t l : ℕ} {m : Found} (e : Entry) → ¬ (l ≡ 0) → FitFrom half img t hi (l - 1) e.child
    → Finds half img hi t e.child m
    → FoundBelow half img hi t l e m
found_at {half} {img} {l = l} e h k each =
    record { inner = h; page = k; is = each (image_of half img) k.holds (l - 1) (fit_searchable k) }

pub found_below : {half : ℕ} {img : List ℕ} {hi t l : ℕ} {m : Found} (e : Entry) → Leads half img t hi l e → ¬ (l ≡ 0)
    → Finds half img hi t e.child m
    → FoundBelow half img hi t l e m
found_below e k h each = found_at e h (leads_on e k h) each

-- and for a later instant
pub found_later : {half : ℕ} {img : List ℕ} {hi s t l : ℕ} {m n : Found} (e : Entry) → FoundBelow half img hi s l e m → s < t
    → Finds half img hi t e.child n
    → FoundBelow half img hi t l e n
found_later e k later each = found_at e k.inner (later_fit k.page later) each

module _ {half : ℕ} {img : List ℕ} {hi t l : ℕ} {e : Entry} {m : Found} (k : FoundBelow half img hi t l e m) where
  pub found_most : m.count ≤ capacity half
  unfolding found_in
  found_most = omega (arith, ap (λ (n : Found). n.count) k.is, number_read k.page, (page_is_fit k.page).most)

  -- the page below: its entries, its bytes, and where in it t falls
  abbrev es : List Entry
  es = entries (image_of half img) e.child

  abbrev bytes : List ℕ
  bytes = page_at half img e.child

  abbrev index : ℕ
  index = index_of t (entries_of half bytes)

  page_fits : PageFit half k.page.head k.page.at bytes
  page_fits = page_is_fit k.page

  index_in : index < entry_count bytes
  index_in = index_within half bytes t page_fits.most (entry_first page_fits (omega (arith, k.page.holds.half_least)))

  index_begun : start_at bytes index ≤ t
  index_begun = index_started half bytes t page_fits.most (omega (arith, page_fits.first, k.page.begun))

  index_read : (v : ℕ) → index_of v es ≡ index_of v (entries_of half bytes)
  index_read v = ap (index_of v) (entries_read k.page)

  end_read : m.end ≡ end_at bytes k.page.at.hi index
  unfolding found_in
  end_read =
      ap (λ (n : Found). n.end) k.is
      ∙ ap (end_in hi es) (index_read t)
      ∙ sym (lent_end k.page.holds (fit_searchable k.page).tree_page refl hi index)
      ∙ ap (λ z. end_at bytes z index) (sym k.page.ends)

  entry_read : m.entry ≡ entry_at half bytes index
  unfolding found_in
  entry_read =
      ap (λ (n : Found). n.entry) k.is
      ∙ ap (λ es. entry_in es (index_of t es)) (entries_read k.page)
      ∙ at_entries_of half bytes index index_in (omega (arith, index_in, page_fits.most))

  pub found_leads : Leads half img t m.end (l - 1) m.entry
  found_leads =
      subst⁻¹ (λ z. Leads half img t z (l - 1) m.entry) end_read
      (subst⁻¹ (Leads half img t (end_at bytes k.page.at.hi index) (l - 1)) entry_read
      (entry_leads (l - 1) k.page index index_in index_begun))

  -- the entry found has a later instant too exactly where it ends behind that, in a page that does
  module _ {u : ℕ} (later : t < u) where
    pub has_later : u < m.end → index_of t es ≡ index_of u es
    has_later before =
        index_read t
        ∙ sym (found_only page_fits u index index_in (omega (arith, index_begun)) (omega (arith, end_read)))
        ∙ sym (index_read u)

    pub not_later : u < hi → m.end ≤ u → ¬ (index_of t es ≡ index_of u es)
    not_later low past same =
        let here : index_of u (entries_of half bytes) ≡ index = sym (index_read u) ∙ sym same ∙ index_read t in
        omega (arith, past, end_read, rw here at (found_ends page_fits u (omega (arith, k.page.ends))))
