-- `fields::fill::all_ff` meets its contract: the words of four and what is left of a part are the part. Assumes nothing.
use Rattle.std.proofs.Common.{◌*◌, ◌/◌, ◌%◌, ap₂, ◌&&◌, ◌∙◌, arith}
use Rattle.fields.proofs.Laws.Tests.{all_are_split}
use Rattle.fields.proofs.fill.all_ff.Goals as goal

pub returns : goal.returns
returns c =
    ap₂ ◌&&◌ c.words_ff.ensures c.bytes_ff.ensures
    ∙ all_are_split 255 c.args.s.now c.args.a (4 * (c.args.n / 4)) (c.args.n % 4) c.args.n (omega arith)
