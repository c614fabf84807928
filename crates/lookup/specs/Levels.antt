-- A page on the path to an instant: what it answers, and what its reader is given. Assumes nothing.
use Rattle.std.specs.Prelude.{ℕ, suc, ◌-◌, ◌≤◌, ◌<◌, ◌≡◌, cond, List, length}
use Rattle.page.specs.declared.Entry as page
use Rattle.page.specs.declared.Head.{Head}
use Rattle.page.specs.Entries.{index_of}
use Rattle.page.specs.Layout.{capacity, start_offset, entry_count, start_at, entry_at, entries_of}
use Rattle.page.specs.Fit.{PageContext, end_at, page_fit}
use Rattle.fit.specs.Contexts.{Bounded}
use Rattle.image.specs.Images.{page_at}
use Rattle.fit.specs.Paths.{Path}
use Rattle.lookup.specs.declared.FoundAt.{FoundAt}
use Rattle.lookup.specs.declared.LevelAnswer.{LevelAnswer}
use Rattle.lookup.specs.declared.LevelAnswer.TheVariants.{Entry, Unfit}

-- A page whose n entries can be searched for the instant t, from either end: their starts rise, and the first isn't past t.
pub record PageSearchable (s : List ℕ) (n t : ℕ) : Type 0 where
  pub len : n ≡ entry_count s
  pub some : 1 ≤ n
  pub inside : start_offset n ≤ length s
  pub rising : (i : ℕ) → i < n - 1 → start_at s i < start_at s (suc i)
  pub first : start_at s 0 ≤ t

-- r is the index of the last entry starting at t or before: found by the starts alone, which stand at the same bytes for every capacity
abbrev pub IndexFound : ℕ → List ℕ → ℕ → Type 0
IndexFound t s r = (half : ℕ) → entry_count s ≤ capacity half → r ≡ index_of t (entries_of half s)

-- And r tells that entry's end too, in a page that ends at hi. Document 02, (viii): "Finding the entry in a page shall give its end as well
-- as its place".
pub record EntryFound (hi t : ℕ) (s : List ℕ) (r : FoundAt) : Type 0 where
  pub index : IndexFound t s r.index
  pub end : r.end ≡ end_at s hi r.index

-- A context on the path to t: its entry isn't past t, and nothing adds up to more than 64 bits there.
pub record OnPath (at : PageContext) (t : ℕ) : Type 0 where
  pub begun : at.lo ≤ t
  pub bounded : Bounded at

-- a lookup of t has come to page p and its context, under fit entries
pub record ComeTo (h : Head) (at : PageContext) (p t : ℕ) : Type 0 where
  pub entries_above : ℕ
  pub path : Path h entries_above at
  pub here : p < h.pages
  pub begun : at.lo ≤ t

-- Of a fit page the last entry starting at t or before, and its end.
unfoldable pub level_answer : ℕ → Head → PageContext → ℕ → List ℕ → LevelAnswer
level_answer half h at t s =
    let i = index_of t (entries_of half s) in
    cond (page_fit half h at s) (Entry (entry_at half s i) (end_at s at.hi i)) Unfit

-- a lookup of t has come to page p, and e, which ends at `end`, is that page's answer
pub record MetIn (half : ℕ) (img : List ℕ) (h : Head) (at : PageContext) (t : ℕ) (e : page.Entry) (end p : ℕ) : Type 0 where
  pub come : ComeTo h at p t
  pub found : Entry e end ≡ level_answer half h at t (page_at half img p)

-- in some page: a lookup that goes on from an entry needn't know in which
abbrev pub Met : ℕ → List ℕ → Head → PageContext → ℕ → page.Entry → ℕ → Type 0
Met half img h at t e end = (p : ℕ) × MetIn half img h at t e end p
