-- The loop's invariant: the entries passed start at `b` or behind it.
use Rattle.std.proofs.Common.{ℕ, ◌≤◌, ◌<◌}
use Rattle.page.specs.Layout.{start_at}
use Rattle.listing.proofs.met.past_met.Given as goal

abbrev pub invariant-loop-i : goal.invariant-loop-i
invariant-loop-i l = (k : ℕ) → l.i ≤ k → k < l.n → l.b ≤ start_at l.s k
