-- A signed number that a call returns stands in a caller as its bits, turned back: it is the number. Assumes nothing.
use mathlib.Core.Path.{◌≡◌, ◌∙◌}
use Prim.Native.Nat.{◌^◌, ◌<◌}
use lib.IntN.{ℤ}
use mir.Syntax.{Width}
use lib.Signed.{mag}
use mir.Val.{hbits, to_z, of_z}
use mir.ValLaws.{to_z-of_z}

pub result_is : (w : Width) {z v : ℤ} → mag z < 2 ^ hbits w → z ≡ v → to_z w (of_z w z) ≡ v
result_is w {z} ok e = to_z-of_z w z (record { sfits = ok }) ∙ e
