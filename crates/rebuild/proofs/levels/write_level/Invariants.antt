-- The loop's invariant: the first i pages are written, and the pages that the next one leads to are as they were.
use Rattle.rebuild.proofs.Laws.Uppers.{Upper}
use Rattle.rebuild.proofs.levels.write_level.Given as goal

abbrev pub invariant-loop-i : goal.invariant-loop-i
invariant-loop-i l = Upper l.half l.n l.below l.level l.initial.img l.i l.first l.img
