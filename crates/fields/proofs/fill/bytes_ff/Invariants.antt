-- The loop's invariant: `ok` is the test of the bytes passed.
use Rattle.std.proofs.Common.{◌≡◌}
use Rattle.fields.specs.Bytes.{part, all_are}
use Rattle.fields.proofs.fill.bytes_ff.Given as goal

abbrev pub invariant-loop-i : goal.invariant-loop-i
invariant-loop-i l = l.ok ≡ all_are 255 (part l.fn.s l.fn.a l.i)
