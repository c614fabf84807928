-- The entries passed differ each from the next.
use Rattle.std.proofs.Common.{◌≡◌, true, ◌+◌}
use Rattle.fields.specs.Bytes.{every}
use Rattle.neighbours.specs.Edges.{next_differs}
use Rattle.neighbours.proofs.leaves.sums_apart.Given as goal

abbrev pub invariant-loop-i : goal.invariant-loop-i
invariant-loop-i l = true ≡ every l.i (λ j. next_differs l.half l.s (l.a + j))
