-- `print::Printer::put_runs_line` meets its contract. Assumes nothing.
use Rattle.std.proofs.Common.{arith}
use Rattle.print.specs.Written.{runs_line}
use Rattle.print.proofs.Laws.Puts.{prints_then, prints_length}
use Rattle.print.proofs.Laws.Numbers.{behind_decimal}
use Rattle.print.proofs.Printer.put_runs_line.Goals as goal

pub put_decimal-requires : goal.put_decimal-requires
put_decimal-requires c = omega (arith, prints_length)

pub put_byte-requires : goal.put_byte-requires
put_byte-requires c = omega (arith, behind_decimal, prints_length)

pub returns : goal.returns
unfolding runs_line
returns c = prints_then c.put_text.ensures (prints_then c.put_decimal.ensures c.put_byte.ensures)
