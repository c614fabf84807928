-- Pairs combined along a path of fit pages stay within bounds. Assumes nothing.
use mathlib.Core.Path.{◌≡◌, refl}
use mathlib.Core.Bool.{Bool, true, false}
use Prim.Native.Nat.{ℕ, ◌+◌, ◌≤◌}
use native.Mathlib.Omega.{arith}
use lib.Dec.{eqb}
use lib.IntN.{nat_abs}
use borrow.Author.Tests.{eqb-true}
use Rattle.rule.specs.declared.Pair.{Pair}
use Rattle.rule.specs.Pairs.{combine}
use Rattle.rule.specs.Bounds.{Combinable}
use Rattle.rule.proofs.Laws.{combine_sum_bound, total_count_bound, combine_value_or_none, values_combinable}
use Rattle.page.specs.declared.Head.{Head}
use Rattle.page.specs.Fit.{PageContext, context_under, most_changes}
use Rattle.fit.proofs.Laws.Pages.{Paired}

kind_count_bound : (kind : ℕ) (p q : Pair) → eqb kind 1 ≡ true → nat_abs (combine kind p q).count ≤ nat_abs p.count + nat_abs q.count
kind_count_bound kind p q e = rw (eqb-true kind 1 e) (total_count_bound p q)

-- a pair that may stand in a page, and one that may stand in the page under its entry
module _ {h : Head} {at : PageContext} {start end : ℕ} {p q : Pair} (above : Paired h at p)
    (below : Paired h (context_under at start end p) q) where
  -- together they may stand in that page
  pub combined_paired : Paired h at (combine h.kind p q)
  combined_paired =
      record {
        total =
            λ e. record {
              sums = omega (arith, (below.total e).sums, combine_sum_bound h.kind p q);
              counts = omega (arith, (below.total e).counts, kind_count_bound h.kind p q e);
            };
        mark = λ e. combine_value_or_none h.kind p q e (above.mark e) (below.mark e);
      }

  -- and they can be combined
  pub paired_combinable : h.changes ≤ most_changes → Combinable p q
  paired_combinable l = case (eqb h.kind 1) refl
    where
      case : (b : Bool) → eqb h.kind 1 ≡ b → Combinable p q
      case true e = omega (arith, (below.total e).sums, (below.total e).counts)
      case false e = values_combinable p q (above.mark e) (below.mark e)
