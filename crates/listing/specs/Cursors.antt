-- Where a walk stands, so that nothing is out of bounds. Assumes nothing.
use Rattle.std.specs.Prelude.{◌≡◌, ℕ, ◌*◌, ◌≤◌, ◌<◌, true, false, List, length, eqb, nat_abs}
use Rattle.rule.specs.declared.Pair.{Pair}
use Rattle.rule.specs.Bounds.{value_or_none}
use Rattle.page.specs.declared.Head.{Head}
use Rattle.page.specs.Layout.{page_size, entry_count}
use Rattle.page.specs.Fit.{PageContext, most_changes, page_fit}
use Rattle.fit.specs.Paths.{Path}
use Rattle.listing.specs.declared.SpanQuery.{SpanQuery}
use Rattle.listing.specs.declared.Cursor.{Cursor}
use Rattle.listing.specs.Walks.{bytes_at, meets}

-- What the pairs above a context are combined to: no more than they add to, or a value.
pub record Above (h : Head) (at : PageContext) (p : Pair) : Type 0 where
  pub sum : eqb h.kind 1 ≡ true → nat_abs p.sum ≤ at.sums
  pub count : eqb h.kind 1 ≡ true → nat_abs p.count ≤ at.counts
  pub mark : eqb h.kind 1 ≡ false → value_or_none p ≡ true

-- The page is one of the image's, and its context is under fit entries.
pub record ValidCursor (img : List ℕ) (q : SpanQuery) (on : Cursor) : Type 0 where
  pub half_least : 1 ≤ q.half
  pub half_most : q.half ≤ 12
  pub size : length img ≡ page_size q.half * q.head.pages
  pub changes : q.head.changes ≤ most_changes
  pub page : on.page < q.head.pages
  pub depth : ℕ
  pub path : Path q.head depth on.at
  pub above : Above q.head on.at on.above

-- Where the pages are known to be fit, this one is.
pub record KnownFit (img : List ℕ) (q : SpanQuery) (on : Cursor) : Type 0 where
  pub known : q.known ≡ true → page_fit q.half q.head on.at (bytes_at q.half img on) ≡ true

-- The page is fit, and the i-th is one of its entries and overlaps the span.
pub record ValidEntry (img : List ℕ) (q : SpanQuery) (on : Cursor) (i : ℕ) : Type 0 where
  pub fit : page_fit q.half q.head on.at (bytes_at q.half img on) ≡ true
  pub within : i < entry_count (bytes_at q.half img on)
  pub met : meets q (bytes_at q.half img on) on i ≡ true
