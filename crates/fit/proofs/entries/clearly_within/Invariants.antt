-- The two `or` are at least as much as what the entries passed have. Assumes nothing.
use Rattle.std.proofs.Common.{ℕ, ◌<◌}
use Rattle.fit.proofs.Laws.Clear.{Under}
use Rattle.fit.proofs.entries.clearly_within.Given as goal

abbrev pub invariant-loop-i : goal.invariant-loop-i
invariant-loop-i l = (j : ℕ) → j < l.i → Under l.half l.l l.s l.sums l.marks j
