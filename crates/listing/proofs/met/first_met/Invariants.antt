-- The loop's invariant: the entries passed end at `a` or before.
use Rattle.std.proofs.Common.{ℕ, ◌≤◌, ◌<◌}
use Rattle.page.specs.Fit.{end_at}
use Rattle.listing.proofs.met.first_met.Given as goal

abbrev pub invariant-loop-i : goal.invariant-loop-i
invariant-loop-i l = (k : ℕ) → k < l.i → end_at l.s l.hi k ≤ l.a
