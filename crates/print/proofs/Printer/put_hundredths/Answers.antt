-- `print::Printer::put_hundredths` meets its contract: the number, the point, and two digits. Assumes nothing.
use Rattle.std.proofs.Common.{arith}
use Rattle.calls.specs.Program.{two_decimals}
use Rattle.print.proofs.Laws.Puts.{prints_then, prints_behind, prints_length}
use Rattle.print.proofs.Laws.Numbers.{behind_decimal}
use Rattle.print.proofs.Printer.put_hundredths.Goals as goal

pub put_byte-requires : goal.put_byte-requires
put_byte-requires c = omega (arith, behind_decimal, prints_length)

pub put_byte-requires-2 : goal.put_byte-requires-2
put_byte-requires-2 c = omega (arith, behind_decimal, prints_length)

pub put_byte-requires-3 : goal.put_byte-requires-3
put_byte-requires-3 c = omega (arith, behind_decimal, prints_length)

pub returns : goal.returns
unfolding two_decimals
returns c = search (prints_then, prints_behind)
