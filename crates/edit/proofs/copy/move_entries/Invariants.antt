-- The entries passed have moved. Assumes nothing.
use Rattle.edit.proofs.Moved.{Moved}
use Rattle.edit.proofs.copy.move_entries.Given as goal

abbrev pub invariant-loop-i : goal.invariant-loop-i
invariant-loop-i l = Moved l.p l.from l.to l.i l.r
