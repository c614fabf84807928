-- What the walk of a span listing does, as the code has it: over the definitions of `image`, with the pairs of the entries above
-- combined into each run, from the open run on. Assumes nothing.
use Rattle.std.specs.Prelude.{◌≡◌, ℕ, ◌+◌, ◌*◌, ◌≤◌, max, Option, Some, None, Bool, true, cond, List, [], ◌∷◌, length, eqb}
use Rattle.rule.specs.declared.Pair.{Pair}
use Rattle.rule.specs.Pairs.{none, combine}
use Rattle.rule.specs.Time.{overlaps}
use Rattle.page.specs.declared.Head.{Head}
use Rattle.page.specs.Layout.{entry_count, start_at, pair_at, child_at}
use Rattle.page.specs.Fit.{end_at, root_context, context_below, page_fit}
use Rattle.image.specs.Images.{page_at}
use Rattle.image.specs.Listing as image
use Rattle.image.specs.Listing.{nothing, under, walk, join}
use Rattle.runs.specs.declared.Run.{Run}
use Rattle.runs.specs.Open.{stepped_all, output_after_all}
use Rattle.listing.specs.declared.SpanQuery.{SpanQuery}
use Rattle.listing.specs.declared.Cursor.{Cursor}

-- ---- the answers

-- the open run after a walk, if every page that it met is fit
unfoldable pub answer : Run → image.Walked → Option Run
answer run w = cond w.fit (Some (stepped_all run w.runs)) None

-- the output after a walk that writes, or only counts
unfoldable pub output : Bool → Run → image.Walked → List ℕ → List ℕ
output writing run w out = cond writing (output_after_all run w.runs out) out

-- What a walk w does from the open run on: its answer, and what it leaves of the output.
pub record Does (writing : Bool) (run : Run) (w : image.Walked) (out : List ℕ) (r : Option Run) (left : List ℕ) : Type 0 where
  pub answers : r ≡ answer run w
  pub writes : left ≡ output writing run w out

-- What it may count on: the runs can be counted; where the pages are known, all are fit; and where runs are written, the pages are known
-- and the output has room.
pub record Room (known writing : Bool) (run : Run) (w : image.Walked) (out : List ℕ) : Type 0 where
  pub few : run.written + length w.runs ≤ 4294967295
  pub fit : known ≡ true → w.fit ≡ true
  pub checked : writing ≡ true → known ≡ true
  pub room : writing ≡ true → 16 * (stepped_all run w.runs).written ≤ length out

-- the number of runs
unfoldable pub count : image.Walked → Option ℕ
count w = cond w.fit (Some (length (join w.runs))) None

-- ---- a page

abbrev pub bytes_at : ℕ → List ℕ → Cursor → List ℕ
bytes_at half img on = page_at half img on.page

-- the walk from a page on
unfoldable pub page_walk : List ℕ → SpanQuery → Cursor → image.Walked
page_walk img q on =
    under (combine q.head.kind) on.above
    (walk q.half q.head img q.a q.b on.at.level on.at on.page)

-- its count of entries, if it is fit
unfoldable pub page_check : List ℕ → SpanQuery → Cursor → Option ℕ
page_check img q on =
    let s = bytes_at q.half img on in
    cond (page_fit q.half q.head on.at s) (Some (entry_count s)) None

-- ---- an entry

-- the root's cursor: no entry is above it
abbrev pub root_cursor : Head → Cursor
root_cursor h = record { at = root_context h; page = h.root; above = none }

-- the cursor of the page below the i-th entry
abbrev pub cursor_below : SpanQuery → List ℕ → Cursor → ℕ → Cursor
cursor_below q s on i =
    record {
      at = context_below q.half s on.at i;
      page = child_at q.half s i;
      above = combine q.head.kind on.above (pair_at q.half s i);
    }

-- the i-th entry overlaps the span
abbrev pub meets : SpanQuery → List ℕ → Cursor → ℕ → Bool
meets q s on i = overlaps q.a q.b (start_at s i) (end_at s on.at.hi i)

-- the walk of one leaf entry
abbrev pub one_run : ℕ → Pair → image.Walked
one_run start pair = record { fit = true; runs = record { start = start; pair = pair } ∷ [] }

-- the walk of the i-th entry, where it overlaps the span: a leaf entry's run, or the page below
unfoldable pub entry_walk : List ℕ → SpanQuery → Cursor → ℕ → image.Walked
entry_walk img q on i =
    let s = bytes_at q.half img on in
    let below = cursor_below q s on i in
    cond (meets q s on i)
    (cond (eqb on.at.level 0) (one_run (max q.a (start_at s i)) below.above) (page_walk img q below))
    nothing

-- ---- the leaves below a page

-- the leaf below the i-th entry of a page above leaves; a leaf is its own
unfoldable pub leaf_cursor : List ℕ → SpanQuery → Cursor → ℕ → Cursor
leaf_cursor img q on i = cond (eqb on.at.level 0) on (cursor_below q (bytes_at q.half img on) on i)
