-- Which entries of a page overlap the span: those from one index up to another. Assumes nothing.
use Rattle.std.specs.Prelude.{◌≡◌, ℕ, ◌-◌, ◌≤◌, ◌<◌, true, false, List}
use Rattle.page.specs.Layout.{start_at}
use Rattle.page.specs.Fit.{end_at}
use Rattle.listing.specs.declared.SpanQuery.{SpanQuery}
use Rattle.listing.specs.declared.Cursor.{Cursor}
use Rattle.std.specs.declared.ops.Range.{Range}
use Rattle.listing.specs.Walks.{bytes_at, meets}

-- i is the first of n entries that ends behind a, or n
pub record FirstMet (s : List ℕ) (n hi a i : ℕ) : Type 0 where
  pub most : i ≤ n
  pub apart : (k : ℕ) → k < i → end_at s hi k ≤ a
  pub met : i < n → a < end_at s hi i

-- i is behind the last of n entries that starts before b, or 0
pub record PastMet (s : List ℕ) (n b i : ℕ) : Type 0 where
  pub most : i ≤ n
  pub apart : (k : ℕ) → i ≤ k → k < n → b ≤ start_at s k
  pub met : 1 ≤ i → start_at s (i - 1) < b

-- of a fit page's n entries just those of the range overlap the span
pub record Met (img : List ℕ) (q : SpanQuery) (on : Cursor) (n : ℕ) (r : Range ℕ) : Type 0 where
  pub from_most : r.start ≤ n
  pub to_most : r.end ≤ n
  pub before : (k : ℕ) → k < r.start → meets q (bytes_at q.half img on) on k ≡ false
  pub inside : (k : ℕ) → r.start ≤ k → k < r.end → meets q (bytes_at q.half img on) on k ≡ true
  pub behind : (k : ℕ) → r.end ≤ k → k < n → meets q (bytes_at q.half img on) on k ≡ false

-- the leaves of a page above leaves that overlap the span; a leaf has one, itself
pub record LeafRange (img : List ℕ) (q : SpanQuery) (on : Cursor) (n : ℕ) (r : Range ℕ) : Type 0 where
  pub itself : on.at.level ≡ 0 → (r.start ≡ 0) × (r.end ≡ 1)
  pub below : 1 ≤ on.at.level → Met img q on n r
