-- `print::Printer::put_unread` meets its contract. Assumes nothing.
use Rattle.std.proofs.Common.{arith}
use Rattle.calls.specs.Program.{unread_text}
use Rattle.print.proofs.Laws.Puts.{prints_then, prints_length}
use Rattle.print.proofs.Laws.Numbers.{behind_decimal}
use Rattle.print.proofs.Printer.put_unread.Goals as goal

pub put_decimal-requires : goal.put_decimal-requires
put_decimal-requires c = omega (arith, prints_length)

pub put_text-requires-2 : goal.put_text-requires-2
put_text-requires-2 c = omega (arith, behind_decimal, prints_length)

pub returns : goal.returns
unfolding unread_text
returns c = prints_then c.put_text.ensures (prints_then c.put_decimal.ensures c.put_text-2.ensures)
