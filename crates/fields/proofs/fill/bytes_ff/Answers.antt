-- `fields::fill::bytes_ff` meets its contract. Assumes nothing.
use Rattle.std.proofs.Common.{◌+◌, ◌<◌, ◌&&◌, eqb, slice_index_or, length, sym, ap, ◌∙◌, arith}
use Rattle.fields.proofs.Laws.Tests.{all_are_none, all_are_more}
use Rattle.fields.proofs.fill.bytes_ff.Goals as goal

pub loop-i-init : goal.loop-i-init
loop-i-init c = sym (all_are_none 255 c.args.s.now c.args.a)

pub loop-i-preserved : goal.loop-i-preserved
loop-i-preserved c =
    let s = c.args.s.now in
    let at = c.args.a + c.loop-i.i in
    let h : at < length s = omega arith in
    ap (λ t. t && eqb (slice_index_or s at 0) 255) c.loop-i.invariant ∙ sym (all_are_more 255 s c.args.a c.loop-i.i h)
