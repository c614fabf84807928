-- `fields::fill::words_ff` meets its contract: one word more. Assumes nothing.
use Rattle.std.proofs.Common.{◌≡◌, ◌+◌, ◌*◌, sym, ◌∙◌, arith}
use Rattle.fields.proofs.Laws.Tests.{all_are_none, all_are_next}
use Rattle.fields.proofs.fill.words_ff.Goals as goal

pub loop-i-init : goal.loop-i-init
loop-i-init g c =
    let none : g.W.Field.SIZE * 0 ≡ 0 = omega arith in
    rw none (c.ones-all.ensures ∙ sym (all_are_none 255 c.args.s.now c.args.a))

pub loop-i-preserved : goal.loop-i-preserved
loop-i-preserved g c =
    let size = g.W.Field.SIZE in
    let i = c.loop-i.i in
    all_are_next 255 c.args.s.now c.args.a (size * i) size (size * (i + 1)) c.loop-i.invariant
    (rw c.SIZE.ensures at c.and_at-all.ensures)
    (omega arith)
