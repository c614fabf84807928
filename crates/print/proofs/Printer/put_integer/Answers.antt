-- `print::Printer::put_integer` meets its contract: a sign and a number. Assumes nothing.
use Rattle.std.proofs.Common.{arith, to_z-of_z}
use Rattle.print.proofs.Laws.Puts.{prints_as, prints_then, prints_length}
use Rattle.print.proofs.Laws.Numbers.{signed_integer, behind_sign}
use Rattle.print.proofs.Printer.put_integer.Goals as goal

pub put_decimal-requires : goal.put_decimal-requires
put_decimal-requires c = omega (arith, behind_sign, prints_length)

pub returns : goal.returns
returns c =
    prints_as (signed_integer c.unsigned_abs.ensures.value (to_z-of_z c.ranges.z)) (prints_then c.put_sign.ensures c.put_decimal.ensures)
