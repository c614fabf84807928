-- A walk down from a fit head stays within bounds. Assumes nothing.
use Rattle.std.proofs.Common.{◌≡◌, ℕ, ◌+◌, ◌*◌, ◌<◌, ◌≤◌, Bool, true, false, cond, eqb, List, nat_abs, refl, mul-one, mul-add, arith}
use Rattle.rule.specs.Time.{most_value}
use Rattle.rule.proofs.Laws.{value_or_none_bound}
use Rattle.page.specs.declared.Head.{Head}
use Rattle.page.specs.Layout.{entry_count, pair_at}
use Rattle.page.specs.Fit.{PageContext, root_context, context_below, most_changes, most_height}
use Rattle.fit.specs.Contexts.{Bounded}
use Rattle.fit.specs.Paths.{weight, Path}
use Rattle.fit.proofs.Laws.Pages.{PageFit}
use Rattle.fit.proofs.Laws.Spans.{end_after, end_within}
use Rattle.fit.proofs.Laws.Heads.{Ranges}

-- an entry more: its own size has a bound, or all have one
heavier : (t : Bool) (c n most x y : ℕ) → x ≤ c * cond t most n → (t ≡ true → x + y ≤ c * most) → (t ≡ false → y ≤ c)
    → x + y ≤ c * cond t most (n + 1)
heavier true c n most x y h total mark = total refl
heavier false c n most x y h total mark = rw (mul-add c n 1, mul-one c) (omega (arith, mark refl))

light : (t : Bool) (most n : ℕ) → most ≤ most_changes → n ≤ most_height → cond t most n ≤ most_changes
light true most n a b = a
light false most n a b = omega arith

bounded : (h : Head) (n : ℕ) (at : PageContext) → h.changes ≤ most_changes → n ≤ most_height
    → at.sums ≤ most_value * weight h n → at.counts ≤ weight h n → Bounded at
unfolding weight
bounded h n at c l a b =
    let w = light (eqb h.kind 1) h.changes n c l in
    record { sums = omega arith; counts = omega arith }

-- the root is under no entry
pub root_path : (half n : ℕ) (h : Head) → Ranges half n h → Path h 0 (root_context h)
unfolding root_context
root_path half n h r = record {
  level = omega (arith, r.height_most);
  span = record { before = omega arith; within = omega arith };
  sums =
      omega arith;
  counts = omega arith;
}

pub path_bounded : {h : Head} {n : ℕ} {at : PageContext} → Path h n at → h.changes ≤ most_changes → Bounded at
path_bounded {h} {n} {at} w c = bounded h n at c (omega (arith, w.level)) w.sums w.counts

module _ {half : ℕ} {h : Head} {n : ℕ} {at : PageContext} {s : List ℕ} (way : Path h n at) (fit : PageFit half h at s)
    (some : 1 ≤ half) (i : ℕ) (l : i < entry_count s) where
  sums_below : at.sums + nat_abs (pair_at half s i).sum ≤ most_value * weight h (n + 1)
  unfolding weight
  sums_below =
      let p = fit.pairs i l in
      heavier (eqb h.kind 1) most_value n h.changes at.sums _ way.sums (λ e. (p.total e).sums)
      (λ e. (value_or_none_bound _ (p.mark e)).0)

  counts_below : at.counts + nat_abs (pair_at half s i).count ≤ weight h (n + 1)
  unfolding weight
  counts_below =
      let p = fit.pairs i l in
      let a : at.counts ≤ 1 * cond (eqb h.kind 1) h.changes n = omega (arith, way.counts) in
      omega (
        arith,
        heavier (eqb h.kind 1) 1 n h.changes at.counts (nat_abs (pair_at half s i).count) a
            (λ e. omega (arith, (p.total e).counts)) (λ e. (value_or_none_bound _ (p.mark e)).1),
      )

  -- and under an inner entry is a context of the path
  pub below_path : 1 ≤ at.level → Path h (n + 1) (context_below half s at i)
  unfolding context_below
  below_path v =
      record {
        level = omega (arith, way.level);
        span = record { before = end_after fit i l; within = omega (arith, way.span.within, end_within fit i l) };
        sums = sums_below;
        counts = counts_below;
      }
