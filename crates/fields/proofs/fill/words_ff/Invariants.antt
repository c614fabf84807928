-- The loop's invariant: `all` has ones alone exactly where the words passed are FF.
use Rattle.std.proofs.Common.{◌≡◌, ◌*◌}
use Rattle.fields.specs.Bytes.{part, all_are}
use Rattle.fields.proofs.fill.words_ff.Given as goal

abbrev pub invariant-loop-i : goal.invariant-loop-i
invariant-loop-i g l = g.W.Word.all_ones l.all ≡ all_are 255 (part l.fn.s l.fn.a (g.W.Field.SIZE * l.i))
