-- The loop's invariant: the bytes passed are written, and no other.
use Rattle.std.proofs.Common.{◌≡◌, replicate}
use Rattle.fields.specs.Bytes.{patch}
use Rattle.fields.proofs.fill.fill.Given as goal

abbrev pub invariant-loop-k : goal.invariant-loop-k
invariant-loop-k l = l.s ≡ patch l.initial.s l.a (replicate l.k l.b)
