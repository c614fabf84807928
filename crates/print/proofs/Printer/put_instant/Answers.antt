-- `print::Printer::put_instant` meets its contract. Assumes nothing.
use Rattle.std.proofs.Common.{arith}
use Rattle.print.proofs.Laws.Puts.{prints_then, prints_length}
use Rattle.print.proofs.Laws.Numbers.{behind_decimal}
use Rattle.print.proofs.Printer.put_instant.Goals as goal

pub put_byte-requires : goal.put_byte-requires
put_byte-requires c = omega (arith, behind_decimal, prints_length)

pub returns : goal.returns
returns c = prints_then (rw c.from.ensures at c.put_decimal.ensures) c.put_byte.ensures
