-- So many entries have the pair.
use Rattle.rebalance.proofs.Pushing.{Pushing}
use Rattle.rebalance.proofs.push.push_down.Given as goal

abbrev pub invariant-loop-i : goal.invariant-loop-i
invariant-loop-i l = Pushing l.kind l.e l.half l.fn.img l.i-end l.img l.i
