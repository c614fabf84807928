-- One digit, or the last digit behind the others.
use Rattle.std.proofs.Common.{sym, arith}
use Rattle.print.proofs.Laws.Puts.{prints_as, prints_then, prints_length}
use Rattle.print.proofs.Laws.Numbers.{decimal_one, decimal_more, length_before}
use Rattle.print.proofs.Printer.+put_decimal.Goals as goal

pub returns-then-n-lt10 : goal.returns-then-n-lt10
returns-then-n-lt10 t c = prints_as (sym (decimal_one _ c.if-n-lt10.true)) c.put_byte.ensures

-- the last digit, behind the others
pub put_byte-requires-2 : goal.put_byte-requires-2
put_byte-requires-2 t c =
    let before = length_before _ c.if-n-lt10.false (omega arith) in
    omega (arith, c.put_decimal.ensures.put.offset, prints_length c.put_decimal.ensures)

pub returns : goal.returns
returns t c = prints_as (sym (decimal_more _ c.if-n-lt10.false (omega arith))) (prints_then c.put_decimal.ensures c.put_byte-2.ensures)
