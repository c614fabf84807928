-- The loop's invariant: the leaves from the i-th on are written, and the runs before them are listed still.
use Rattle.rebuild.proofs.Laws.Leaves.{Leaves}
use Rattle.rebuild.proofs.leaves.write_leaves.Given as goal

abbrev pub invariant-loop-i : goal.invariant-loop-i
invariant-loop-i l = Leaves l.half l.runs l.initial.img l.i l.from l.img
