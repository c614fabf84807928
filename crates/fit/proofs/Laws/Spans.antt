-- The spans of a fit page's entries follow each other, from the page's own start to its end, and a search finds the entry whose span has
-- the instant. Assumes nothing.
use Rattle.std.proofs.Common.{◌≡◌, ℕ, suc, ◌-◌, ◌<◌, ◌≤◌, cond, ltb, List, refl, ap, arith, le-ltb, lt-ltb}
use native.Mathlib.Decide.{dec_lt}
use Rattle.lists.proofs.Totals.{rises}
use Rattle.page.specs.declared.Head.{Head}
use Rattle.page.specs.Entries.{index_of}
use Rattle.page.specs.Layout.{entry_count, start_at, entries_of}
use Rattle.page.specs.Fit.{PageContext, end_at}
use Rattle.page.proofs.Laws.Indices.{index_is, index_next}
use Rattle.fit.proofs.Laws.Pages.{PageFit}

-- where the spans begin and end: at the starts, the last one at the page's own end
unfoldable pub bound : List ℕ → ℕ → ℕ → ℕ
bound s hi i = cond (ltb i (entry_count s)) (start_at s i) hi

pub bound_next : (s : List ℕ) (hi i : ℕ) → end_at s hi i ≡ bound s hi (suc i)
unfolding bound end_at
bound_next s hi i = refl

pub bound_in : (s : List ℕ) (hi i : ℕ) → i < entry_count s → bound s hi i ≡ start_at s i
unfolding bound
bound_in s hi i l = ap (λ t. cond t (start_at s i) hi) (lt-ltb i (entry_count s) l)

pub bound_past : (s : List ℕ) (hi i : ℕ) → entry_count s ≤ i → bound s hi i ≡ hi
unfolding bound
bound_past s hi i l = ap (λ t. cond t (start_at s i) hi) (le-ltb i (entry_count s) l)

module _ {half : ℕ} {h : Head} {at : PageContext} {s : List ℕ} (f : PageFit half h at s) where
  pub bound_rises : (i : ℕ) → i < entry_count s → bound s at.hi i < bound s at.hi (suc i)
  bound_rises i l = go (dec_lt (suc i) (entry_count s))
    where
      go : Dec (suc i < entry_count s) → bound s at.hi i < bound s at.hi (suc i)
      go (yes k) = omega (arith, bound_in s at.hi i l, bound_in s at.hi (suc i) k, f.rising i (omega arith))
      go (no k) =
          let d : entry_count s - 1 ≡ i = omega arith in
          omega (arith, bound_in s at.hi i l, bound_past s at.hi (suc i) (omega arith), rw d at f.last)

  pub first_low : at.lo ≤ bound s at.hi 0
  first_low = go (dec_lt 0 (entry_count s))
    where
      go : Dec (0 < entry_count s) → at.lo ≤ bound s at.hi 0
      go (yes k) = omega (arith, bound_in s at.hi 0 k, f.first)
      go (no k) =
          let d : entry_count s - 1 ≡ 0 = omega arith in
          omega (arith, bound_past s at.hi 0 (omega arith), rw d at f.last, f.first)

  -- an entry's span lies in its page's
  pub start_within : (i : ℕ) → i < entry_count s → at.lo ≤ start_at s i
  start_within i l =
      omega (
        arith,
        first_low,
        bound_in s at.hi i l,
        rises (entry_count s) (bound s at.hi) bound_rises 0 i (omega arith) (omega arith),
      )

  pub end_after : (i : ℕ) → i < entry_count s → start_at s i < end_at s at.hi i
  end_after i l = omega (arith, bound_in s at.hi i l, bound_rises i l, bound_next s at.hi i)

  pub end_within : (i : ℕ) → i < entry_count s → end_at s at.hi i ≤ at.hi
  end_within i l =
      omega (
        arith,
        bound_next s at.hi i,
        rises (entry_count s) (bound s at.hi) bound_rises (suc i) (entry_count s) (omega arith) (omega arith),
        bound_past s at.hi (entry_count s) (omega arith),
      )

  pub span_some : at.lo < at.hi
  span_some = go (dec_lt 0 (entry_count s))
    where
      go : Dec (0 < entry_count s) → at.lo < at.hi
      go (yes k) = omega (arith, f.first, end_after 0 k, end_within 0 k)
      go (no k) =
          let d : entry_count s - 1 ≡ 0 = omega arith in
          omega (arith, rw d at f.last, f.first)

  -- the entry found ends behind the instant, if its page does
  pub found_ends : (t : ℕ) → t < at.hi → t < end_at s at.hi (index_of t (entries_of half s))
  found_ends t l = go (dec_lt (suc i) (entry_count s))
    where
      i : ℕ
      i = index_of t (entries_of half s)

      go : Dec (suc i < entry_count s) → t < end_at s at.hi i
      go (yes m) = omega (arith, bound_next s at.hi i, bound_in s at.hi (suc i) m, index_next half s t f.most m)
      go (no m) = omega (arith, bound_next s at.hi i, bound_past s at.hi (suc i) (omega arith))

  -- an entry whose span has the instant is the one found
  pub found_only : (t i : ℕ) → i < entry_count s → start_at s i ≤ t → t < end_at s at.hi i → index_of t (entries_of half s) ≡ i
  found_only t i l a b =
      index_is half s t f.most i l a
      (λ j x y.
      omega (
        arith,
        bound_next s at.hi i,
        bound_in s at.hi j y,
        rises (entry_count s) (bound s at.hi) bound_rises (suc i) j x (omega arith),
      ))
