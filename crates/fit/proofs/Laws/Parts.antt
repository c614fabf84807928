-- The parts of a check, by their cases. Assumes nothing.
use Rattle.std.proofs.Common.{◌≡◌, ℕ, suc, ◌+◌, ◌*◌, ◌<◌, ◌≤◌, Bool, true, false, cond, ◌&&◌, eqb, ltb, leb, ◌↔◌, List, length, nat_abs, sym, ap, add-one, arith, le-ltb, lt-ltb}
use Rattle.rule.specs.declared.Pair.{Pair}
use Rattle.rule.specs.Time.{most_value}
use Rattle.rule.specs.Bounds.{value_or_none}
use Rattle.rule.proofs.Tests.{both}
use Rattle.page.specs.declared.Head.{Head}
use Rattle.page.specs.Layout.{capacity, page_size, entry_count, start_at}
use Rattle.page.specs.Fit.{PageContext, end_at, fewest, entry_count_ok, child_ok, pair_ok}
use Rattle.fit.specs.Contexts.{Compared}
use Rattle.fit.proofs.Tests.{le_is}

-- ---- the count of entries

pub fewest_pos : (half : ℕ) (at : PageContext) → 1 ≤ half → 1 ≤ fewest half at
unfolding fewest
fewest_pos half at h = go at.is_root (eqb at.level 0)
  where
    go : (t u : Bool) → 1 ≤ cond t (cond u 1 2) half
    go true true = omega arith
    go true false = omega arith
    go false u = h

pub entry_count_is : (half : ℕ) (at : PageContext) (s : List ℕ)
    → (entry_count_ok half at s ≡ true) ↔ ((fewest half at ≤ entry_count s) × (entry_count s ≤ capacity half))
unfolding entry_count_ok
entry_count_is half at s = both _ _ (le_is _ _) (le_is _ _)

-- a count of entries that may stand in a page has been compared with the page's capacity
pub compared : (half : ℕ) (at : PageContext) (s : List ℕ) {n : ℕ} → 1 ≤ half → length s ≡ page_size half → n ≡ entry_count s
    → entry_count_ok half at s ≡ true → Compared half s n
compared half at s some e m h =
    let k = (entry_count_is half at s).0 h in
    let p = fewest_pos half at some in
    record { size = e; len = m; some = omega (arith, k.0); most = omega (arith, k.1) }

-- ---- where an entry ends

module _ (s : List ℕ) (hi i : ℕ) where
  pub end_next : i + 1 < entry_count s → end_at s hi i ≡ start_at s (i + 1)
  unfolding end_at
  end_next h = rw (lt-ltb (suc i) (entry_count s) (omega arith)) (ap (start_at s) (sym (add-one i)))

  pub end_last : entry_count s ≤ i + 1 → end_at s hi i ≡ hi
  unfolding end_at
  end_last h = rw (le-ltb (suc i) (entry_count s) (omega arith))

-- ---- a child, by the level

module _ (pages level child : ℕ) where
  pub child_leaf : eqb level 0 ≡ true → child_ok pages level child ≡ eqb child 0
  unfolding child_ok
  child_leaf e = rw e

  pub child_inner : eqb level 0 ≡ false → child_ok pages level child ≡ leb 1 child && ltb child pages
  unfolding child_ok
  child_inner e = rw e

-- ---- a pair, by the kind

module _ (h : Head) (at : PageContext) (p : Pair) where
  pub pair_total : eqb h.kind 1 ≡ true
      → pair_ok h at p ≡ leb (at.sums + nat_abs p.sum) (most_value * h.changes) && leb (at.counts + nat_abs p.count) h.changes
  unfolding pair_ok
  pair_total e = rw e

  pub pair_mark : eqb h.kind 1 ≡ false → pair_ok h at p ≡ value_or_none p
  unfolding pair_ok
  pair_mark e = rw e
