-- What a fit head is, fact by fact. Assumes nothing.
use Rattle.std.proofs.Common.{◌≡◌, ℕ, ◌<◌, ◌≤◌, true, List, ltb-true, eqb-true, leb-true}
use mathlib.Core.Bool.{and-eq-true_iff}
use Rattle.rule.specs.Time.{kind_ok, window_ok}
use Rattle.page.specs.declared.Head.{Head}
use Rattle.page.specs.Layout.{head_of}
use Rattle.page.specs.Fit.{most_changes, most_height, ranges_ok, field_ok, head_fit}
use Rattle.page.proofs.Laws.Capacities.{head_field}

-- "n matches the length, changes ≤ 1,000,000,000, the root lies in 1 to n−1, the chain's first page is 0 or there, the other
-- fields keep the ranges named"; the capacity is the one by which the image is read
pub record Ranges (half n : ℕ) (h : Head) : Type 0 where
  pub pages_is : h.pages ≡ n
  pub height_least : 1 ≤ h.height
  pub height_most : h.height ≤ most_height
  pub root_least : 1 ≤ h.root
  pub root_below : h.root < n
  pub free_below : h.free < n
  pub mark_least : 2 ≤ h.mark
  pub mark_most : h.mark ≤ n
  pub kind_fits : kind_ok h.kind ≡ true
  pub window_fits : window_ok h.window ≡ true
  pub changes_most : h.changes ≤ most_changes
  pub field_fits : field_ok half h.capacity ≡ true

pub fit_ranges : (half n : ℕ) (s : List ℕ) → head_fit half n s ≡ true → Ranges half n (head_of s)
unfolding head_fit ranges_ok
fit_ranges half n s e =
    let k = (simp and-eq-true_iff at e).0 in
    let rest = k.1.1.1 in
    record {
      pages_is = eqb-true _ _ k.0;
      height_least = leb-true _ _ k.1.0.0;
      height_most = leb-true _ _ k.1.0.1;
      root_least = leb-true _ _ k.1.1.0.0;
      root_below = ltb-true _ _ k.1.1.0.1;
      free_below = ltb-true _ _ rest.0;
      mark_least = leb-true _ _ rest.1.0.0;
      mark_most = leb-true _ _ rest.1.0.1;
      kind_fits = rest.1.1.0;
      window_fits = rest.1.1.1.0;
      changes_most = leb-true _ _ rest.1.1.1.1;
      field_fits = head_field half n s e;
    }
