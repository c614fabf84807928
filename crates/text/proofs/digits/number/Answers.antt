-- `text::digits::number` meets its contract: a law for each way out. Assumes nothing.
use Rattle.std.proofs.Common.{arith, rules}
use Rattle.text.proofs.Laws.Digits.{none_short, none_long, summed_first, summed_more, summed_other, summed_all}
use Rattle.text.proofs.digits.number.Goals as goal

pub loop-d-init : goal.loop-d-init
loop-d-init c = search (arith, summed_first)

pub returns-then-not-is_ascii_digit-clause-value : goal.returns-then-not-is_ascii_digit-clause-value
returns-then-not-is_ascii_digit-clause-value c = summed_other c.loop-d.invariant c.loop-d-test.true (search rules)

pub loop-d-preserved : goal.loop-d-preserved
loop-d-preserved c = summed_more c.loop-d.invariant c.loop-d-test.true (search rules) (search rules) c.from.ensures

pub returns-clause-value : goal.returns-clause-value
returns-clause-value c = summed_all c.loop-d.invariant (search rules)

pub returns-then-is_empty-clause-value : goal.returns-then-is_empty-clause-value
returns-then-is_empty-clause-value c = grind (arith, none_short, none_long)
