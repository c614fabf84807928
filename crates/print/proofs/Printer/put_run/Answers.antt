-- `print::Printer::put_run` meets its contract: six things, one behind the other. Assumes nothing.
use Rattle.std.proofs.Common.{ap, ◌∙◌, arith, rules, w32, w64, SFits, to_z, of_z, to_z-of_z}
use mir.Facts.{sfits_widen}
use Rattle.print.proofs.Laws.Puts.{prints_as, prints_then, prints_length}
use Rattle.print.proofs.Laws.Numbers.{behind_instant, behind_amount, behind_average, run_pieces}
use Rattle.print.proofs.Printer.put_run.Goals as goal

pub put_instant-requires-2 : goal.put_instant-requires-2
put_instant-requires-2 c = omega (arith, behind_instant, prints_length)

pub put_amount-requires : goal.put_amount-requires
put_amount-requires c = omega (arith, behind_instant, prints_length)

pub put_amount-requires-2 : goal.put_amount-requires-2
put_amount-requires-2 c = omega (arith, behind_instant, behind_amount, prints_length)

pub put_average-requires : goal.put_average-requires
put_average-requires c = omega (arith, behind_instant, behind_amount, prints_length)

pub put_byte-requires : goal.put_byte-requires
put_byte-requires c = omega (arith, behind_instant, behind_amount, behind_average, prints_length)

pub returns : goal.returns
returns c =
    let sum : SFits w64 c.args.pair.sum = search rules in
    let count : SFits w32 c.args.pair.count = search rules in
    let wide : SFits w64 c.args.pair.count = sfits_widen tt count in
    prints_as (run_pieces _ _ (to_z-of_z sum) (ap (λ z. to_z w64 (of_z w64 z)) (c.from.ensures ∙ to_z-of_z count) ∙ to_z-of_z wide) c.average.ensures)
    (prints_then c.put_instant.ensures (prints_then c.put_instant-2.ensures (prints_then c.put_amount.ensures
    (prints_then c.put_amount-2.ensures (prints_then c.put_average.ensures c.put_byte.ensures)))))
