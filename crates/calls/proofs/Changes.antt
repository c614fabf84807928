-- The effect of a booking that rows 13 and 22 don't turn back is one of its kind. Assumes nothing.
use Prim.Native.Nat.{ℕ, ◌≤◌}
use mathlib.Core.Path.{◌≡◌, refl, sym, ap, ◌∙◌}
use mathlib.Core.Logic.{inr}
use mathlib.Core.Bool.{true, false, not, ◌&&◌, true≢false}
use native.Mathlib.Omega.{arith}
use lib.Dec.{eqb}
use lib.IntN.{ℤ, nat_abs}
use Rattle.rule.specs.Time.{most_value, value_ok}
use Rattle.rule.specs.Pairs.{entry_effect}
use Rattle.rule.specs.Bounds.{Effective}
use Rattle.rule.proofs.Signed.{nat_abs_neg}
use Rattle.rule.proofs.Laws.{value_ok_is, value_or_none_is}
use Rattle.calls.specs.Changes.{Side, entering, withdrawing, withdraws, effect}

pub effective : (kind : ℕ) (side : Side) (v : ℤ) → value_ok v ≡ true → withdraws side && not (eqb kind 1) ≡ false
    → Effective kind (effect side v)
unfolding effect withdraws
effective kind entering v ok sided =
    let h : nat_abs v ≤ most_value = (value_ok_is v).0 ok in
    record { sum = h; count = omega arith; value = λ k. (value_or_none_is (entry_effect v)).1 (inr (h, refl)) }
effective kind withdrawing v ok sided =
    record {
      sum = omega (arith, (value_ok_is v).0 ok, nat_abs_neg v);
      count = omega arith;
      value = λ k. absurd (true≢false (sym (ap not k) ∙ sided));
    }
