-- So many entries of page b stand behind those of page a.
use Rattle.rebalance.proofs.Sharing.{Appending}
use Rattle.rebalance.proofs.share.append_all.Given as goal

abbrev pub invariant-loop-i : goal.invariant-loop-i
invariant-loop-i l = Appending l.a l.b l.half l.fn.img l.m l.i-end l.img l.i
