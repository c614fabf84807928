-- Page a has so many of all entries. The measure is how far it is from k of them.
use Rattle.std.proofs.Common.{◌+◌, ◌-◌}
use Rattle.rebalance.proofs.Sharing.{Sharing}
use Rattle.rebalance.proofs.share.share.Given as goal

abbrev pub invariant-loop-m : goal.invariant-loop-m
invariant-loop-m l = Sharing l.a l.b l.k l.half l.fn.img l.img l.m

abbrev pub decreases-loop-m : goal.decreases-loop-m
decreases-loop-m l = (l.k - l.m) + (l.m - l.k)
