-- What was found below the entries passed.
use Rattle.neighbours.proofs.Laws.{Passing}
use Rattle.neighbours.proofs.walk.leaves_edges.Given as goal

abbrev pub invariant-loop-i : goal.invariant-loop-i
invariant-loop-i l = Passing l.half l.img 1 l.p l.n l.found l.i
