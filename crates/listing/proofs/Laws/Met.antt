-- The entries of a fit page that overlap the span stand in a row. Assumes nothing.
use mathlib.Core.Path.{◌≡◌}
use mathlib.Core.Bool.{true, false, and-false}
use mathlib.Core.List.{List}
use Prim.Native.Nat.{ℕ, suc, ◌-◌, ◌≤◌, ◌<◌}
use native.Mathlib.Omega.{arith}
use lib.Dec.{ltb}
use borrow.Author.Tests.{lt-ltb, le-ltb}
use Rattle.rule.specs.Time.{overlaps}
use Rattle.lists.proofs.Totals.{rises}
use Rattle.page.specs.declared.Head.{Head}
use Rattle.page.specs.Layout.{entry_count, start_at}
use Rattle.page.specs.Fit.{PageContext, end_at}
use Rattle.fit.proofs.Laws.Pages.{PageFit}
use Rattle.fit.proofs.Laws.Spans.{bound, bound_next, bound_in, bound_rises}
use Rattle.listing.specs.declared.SpanQuery.{SpanQuery}
use Rattle.listing.specs.declared.Cursor.{Cursor}
use Rattle.listing.specs.Walks.{bytes_at}
use Rattle.listing.specs.Met.{FirstMet, PastMet, Met}

-- ---- the test, by where the entry lies

module _ (a b lo hi : ℕ) where
  overlaps_before : hi ≤ a → overlaps a b lo hi ≡ false
  unfolding overlaps
  overlaps_before h = rw (le-ltb a hi h) (and-false (ltb lo b))

  overlaps_behind : b ≤ lo → overlaps a b lo hi ≡ false
  unfolding overlaps
  overlaps_behind h = rw (le-ltb lo b h)

  overlaps_both : lo < b → a < hi → overlaps a b lo hi ≡ true
  unfolding overlaps
  overlaps_both l h = rw (lt-ltb lo b l, lt-ltb a hi h)

-- ---- a page's starts and ends rise with its entries

module _ {half : ℕ} {h : Head} {at : PageContext} {s : List ℕ} (fit : PageFit half h at s) where
  -- the bounds of two of the page's spans, one before the other
  order : (i j : ℕ) → i ≤ j → j ≤ entry_count s → bound s at.hi i ≤ bound s at.hi j
  order i j l m = rises (entry_count s) (bound s at.hi) (bound_rises fit) i j l m

  starts_before : {n b to : ℕ} → n ≡ entry_count s → PastMet s n b to → (k : ℕ) → k < to → start_at s k < b
  starts_before {to = to} len past k l =
      let end : to - 1 < entry_count s = omega (arith, past.most) in
      omega (
        arith,
        past.met (omega arith),
        order k (to - 1) (omega arith) (omega arith),
        bound_in s at.hi k (omega arith),
        bound_in s at.hi (to - 1) end,
      )

  ends_behind : {n a from : ℕ} → n ≡ entry_count s → FirstMet s n at.hi a from → (k : ℕ) → from ≤ k → k < n → a < end_at s at.hi k
  ends_behind {from = from} len first k l m =
      omega (
        arith,
        first.met (omega arith),
        order (suc from) (suc k) (omega arith) (omega arith),
        bound_next s at.hi from,
        bound_next s at.hi k,
      )

pub met_range : {img : List ℕ} {q : SpanQuery} {on : Cursor} {n from to : ℕ}
    → PageFit q.half q.head on.at (bytes_at q.half img on)
    → n ≡ entry_count (bytes_at q.half img on)
    → FirstMet (bytes_at q.half img on) n on.at.hi q.a from
    → PastMet (bytes_at q.half img on) n q.b to
    → Met img q on n (record { start = from; end = to })
met_range fit len first past =
    record {
      from_most = first.most;
      to_most = past.most;
      before = λ k l. overlaps_before _ _ _ _ (first.apart k l);
      inside = λ k l m. overlaps_both _ _ _ _ (starts_before fit len past k m) (ends_behind fit len first k l (omega (arith, past.most)));
      behind = λ k l m. overlaps_behind _ _ _ _ (past.apart k l m);
    }
