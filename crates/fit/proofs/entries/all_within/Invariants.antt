-- The top bit is clear exactly where the entries passed may stand in a page that has these limits. Assumes nothing.
use Rattle.rule.specs.Bounds.{top_clear}
use Rattle.fit.specs.Limits.{Tells}
use Rattle.fit.proofs.entries.all_within.Given as goal

abbrev pub invariant-loop-i : goal.invariant-loop-i
invariant-loop-i l = Tells l.half l.l l.s l.i (top_clear l.over)
