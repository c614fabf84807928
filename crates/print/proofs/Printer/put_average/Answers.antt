-- `print::Printer::put_average` meets its contract: a law for each case. Assumes nothing.
use Rattle.std.proofs.Common.{sym, ap, ◌∙◌, arith, rules, w64, SFits, to_z-of_z}
use Rattle.rule.specs.declared.Average.TheVariants.{Hundredths}
use Rattle.print.proofs.Laws.Puts.{prints_as, prints_then, prints_length}
use Rattle.print.proofs.Laws.Numbers.{signed_average, without_average, behind_sign}
use Rattle.print.proofs.Printer.put_average.Goals as goal

pub put_hundredths-requires : goal.put_hundredths-requires
put_hundredths-requires c = omega (arith, behind_sign, prints_length)

pub returns-in-Hundredths : goal.returns-in-Hundredths
returns-in-Hundredths c =
    let fits : SFits w64 c.in-Hundredths.h = search rules in
    prints_as (signed_average c.unsigned_abs.ensures.value (c.in-Hundredths.is ∙ ap Hundredths (sym (to_z-of_z fits))))
    (prints_then c.put_sign.ensures c.put_hundredths.ensures)

pub returns-in-Nothing : goal.returns-in-Nothing
returns-in-Nothing c = prints_as (without_average c.in-Nothing.is) c.put_byte.ensures
