-- A search that stands at "the last entry starting at t or before" has found its index in a page. Assumes nothing.
use mathlib.Core.Path.{◌≡◌, sym}
use mathlib.Core.List.{List}
use Prim.Native.Nat.{ℕ, ◌+◌, ◌-◌, ◌≤◌, ◌<◌}
use native.Mathlib.Decide.{dec_lt}
use native.Mathlib.Omega.{arith}
use lib.ListN.{length}
use Rattle.lists.proofs.Totals.{rises}
use Rattle.page.specs.Layout.{start_at}
use Rattle.page.proofs.Laws.Indices.{index_within, index_is}
use Rattle.lookup.specs.Levels.{PageSearchable, IndexFound}

-- from either end: it stands between an entry that starts at t or before and one that doesn't, and the starts rise
pub searched_index : {s : List ℕ} {n t : ℕ} → PageSearchable s n t → (k : ℕ) → k < n → start_at s k ≤ t
    → (k + 1 < n → t < start_at s (k + 1)) → IndexFound t s k
searched_index {s} {n} {t} ok k l h next half most =
    let e = ok.len in
    sym (index_is half s t most k (omega arith) h
    (λ i a b. omega (arith, next (omega arith), rises (n - 1) (start_at s) ok.rising (k + 1) i (omega arith) (omega arith))))

-- ---- a search that goes back over the starts and counts

-- Of the starts from the i-th on, `later` are after t: the last ones, since the starts rise.
pub record CountedBack (s : List ℕ) (n t i later : ℕ) : Type 0 where
  pub most : i + later ≤ n
  pub after : 1 ≤ later → t < start_at s (n - later)
  pub not_after : i + later < n → start_at s (n - later - 1) ≤ t

module _ {s : List ℕ} {n t : ℕ} (ok : PageSearchable s n t) where
  pub none_counted : CountedBack s n t n 0
  none_counted = record { most = omega arith; after = λ l. absurd (omega arith); not_after = λ l. absurd (omega arith) }

  module _ {i later : ℕ} (c : CountedBack s n t i later) where
    -- behind a start after t none is at t or before
    all_later : 1 ≤ i → t < start_at s (i - 1) → i + later ≡ n
    all_later some h = go (dec_lt (i + later) n)
      where
        go : Dec (i + later < n) → i + later ≡ n
        go (yes l) =
            let up = rises (n - 1) (start_at s) ok.rising (i - 1) (n - later - 1) (omega arith) (omega arith) in
            absurd (omega (arith, c.not_after l))
        go (no l) = omega (arith, c.most)

    pub one_later : 1 ≤ i → t < start_at s (i - 1) → CountedBack s n t (i - 1) (later + 1)
    one_later some h =
        let all = all_later some h in
        let here : n - (later + 1) ≡ i - 1 = omega arith in
        record { most = omega arith; after = λ l. rw here h; not_after = λ l. absurd (omega arith) }

    pub none_later : 1 ≤ i → start_at s (i - 1) ≤ t → CountedBack s n t (i - 1) later
    none_later some h = record { most = omega (arith, c.most); after = c.after; not_after = λ l. go (dec_lt (i + later) n) }
      where
        go : Dec (i + later < n) → start_at s (n - later - 1) ≤ t
        go (yes l) = c.not_after l
        go (no l) =
            let here : n - later - 1 ≡ i - 1 = omega (arith, c.most) in
            rw here h

    -- the first start isn't after t
    pub not_all : later < n
    not_all = go (dec_lt later n)
      where
        go : Dec (later < n) → later < n
        go (yes l) = l
        go (no l) =
            let here : n - later ≡ 0 = omega arith in
            let first : t < start_at s 0 = rw (sym here) (c.after (omega (arith, ok.some))) in
            absurd (omega (arith, ok.first))

    pub counted_index : i ≡ 0 → IndexFound t s (n - 1 - later)
    counted_index done =
        let fewer = not_all in
        let here : n - later - 1 ≡ n - 1 - later = omega arith in
        searched_index ok (n - 1 - later) (omega arith) (rw (sym here) (c.not_after (omega arith))) next
      where
        next : n - 1 - later + 1 < n → t < start_at s (n - 1 - later + 1)
        next l =
            let behind : n - 1 - later + 1 ≡ n - later = omega (arith, not_all) in
            rw behind (c.after (omega arith))

-- the index found is one of the page's
pub found_inside : {s : List ℕ} {n t k : ℕ} → PageSearchable s n t → IndexFound t s k → k < length s
found_inside {s} {n} {t} ok found =
    let e = found n (omega (arith, ok.len)) in
    omega (arith, e, index_within n s t (omega (arith, ok.len)) (omega (arith, ok.len, ok.some)), ok.inside, ok.len)
