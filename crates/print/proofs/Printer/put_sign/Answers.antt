-- `print::Printer::put_sign` meets its contract. Assumes nothing.
use Rattle.std.proofs.Common.{sym, arith, to_z-of_z}
use Rattle.print.proofs.Laws.Puts.{prints_none, prints_as}
use Rattle.print.proofs.Laws.Numbers.{sign_minus, sign_none}
use Rattle.print.proofs.Printer.put_sign.Goals as goal

pub returns-then-z-lt0 : goal.returns-then-z-lt0
returns-then-z-lt0 c = prints_as (sym (sign_minus _ (rw (to_z-of_z c.ranges.z) at c.if-z-lt0.true))) c.put_byte.ensures

pub returns-else-z-lt0 : goal.returns-else-z-lt0
returns-else-z-lt0 c = prints_as (sym (sign_none _ (rw (to_z-of_z c.ranges.z) at c.if-z-lt0.false))) (prints_none _ (omega arith))
