-- `apart` is the test of the entries passed.
use Rattle.std.proofs.Common.{◌≡◌}
use Rattle.fields.specs.Bytes.{every}
use Rattle.neighbours.specs.Edges.{next_differs}
use Rattle.neighbours.proofs.leaves.all_apart.Given as goal

abbrev pub invariant-loop-i : goal.invariant-loop-i
invariant-loop-i l = l.apart ≡ every l.i (λ j. next_differs l.half l.s j)
