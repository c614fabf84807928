-- `booking::effects::effect` meets its contract: a value's opposite has its width. Assumes nothing.
use Rattle.std.proofs.Common.{◌≡◌, true, ℤ, refl, arith, pos, neg_ℤ, ◌-ℤ◌, SFits, w64, to_z-of_z}
use lib.IntN.{negsuc, +ℤ_idl}
use Rattle.rule.proofs.Signed.{sfits_nat_abs, nat_abs_add, nat_abs_neg}
use Rattle.rule.proofs.Laws.{value_ok_is}
use Rattle.rule.specs.Time.{value_ok}
use Rattle.calls.specs.Changes.{effect}
use Rattle.booking.proofs.effects.effect.Goals as goal

value_fits : (v : ℤ) → value_ok v ≡ true → SFits w64 v
value_fits v ok = sfits_nat_abs w64 (omega (arith, (value_ok_is v).0 ok))

opposite_fits : (v : ℤ) → value_ok v ≡ true → SFits w64 (pos 0 -ℤ v)
opposite_fits v ok = sfits_nat_abs w64 (omega (arith, nat_abs_add (pos 0) (neg_ℤ v), nat_abs_neg v, (value_ok_is v).0 ok))

pub overflow_sub-result : goal.overflow_sub-result
overflow_sub-result c =
    let v = c.args.booking.value in
    rw (to_z-of_z (value_fits v c.requires)) (opposite_fits v c.requires)

pub returns-in-Entering : goal.returns-in-Entering
unfolding effect
returns-in-Entering c = rw (to_z-of_z (value_fits _ c.requires), c.in-Entering.is) refl

pub returns-in-Withdrawing : goal.returns-in-Withdrawing
unfolding effect
returns-in-Withdrawing c =
    let v = c.args.booking.value in
    rw (to_z-of_z (value_fits v c.requires), to_z-of_z (opposite_fits v c.requires), c.in-Withdrawing.is)
    (λ j. record { sum = +ℤ_idl (neg_ℤ v) j; count = negsuc 0 })
