-- The loop of `text::digits::number`: n is the number of the digits passed. Assumes nothing.
use Rattle.text.proofs.Laws.Digits.{Summed}
use Rattle.text.proofs.digits.number.Given as goal

abbrev pub invariant-loop-d : goal.invariant-loop-d
invariant-loop-d l = Summed l.ds l.d-index l.n
