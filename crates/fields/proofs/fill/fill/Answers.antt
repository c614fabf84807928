-- `fields::fill::fill` meets its contract: one byte more. Assumes nothing.
use Rattle.std.proofs.Common.{◌+◌, ◌<◌, length, slice_set, sym, ap, ◌∙◌, arith}
use Rattle.fields.proofs.Laws.Parts.{patch_none, fill_more}
use Rattle.fields.proofs.fill.fill.Goals as goal

pub loop-k-init : goal.loop-k-init
loop-k-init c = sym (patch_none c.args.s.now c.args.a)

pub loop-k-preserved : goal.loop-k-preserved
loop-k-preserved c =
    let s = c.args.s.now in
    let at = c.args.a + c.loop-k.k in
    let h : at < length s = omega arith in
    ap (λ l. slice_set l at c.args.b) c.loop-k.invariant ∙ fill_more s c.args.a c.loop-k.k c.args.b h
