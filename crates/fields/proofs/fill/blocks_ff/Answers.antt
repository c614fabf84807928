-- `fields::fill::blocks_ff` meets its contract: one block more. Assumes nothing.
use Rattle.std.proofs.Common.{◌≡◌, ◌+◌, ◌*◌, ◌/◌, ◌%◌, ◌&&◌, sym, ap, ap₂, ◌∙◌, arith}
use Rattle.fields.specs.Bytes.{part, all_are}
use Rattle.fields.proofs.Laws.Tests.{all_are_none, all_are_split}
use Rattle.fields.proofs.fill.blocks_ff.Goals as goal

pub loop-i-init : goal.loop-i-init
loop-i-init c = sym (all_are_none 255 c.args.s.now c.args.a)

pub loop-i-preserved : goal.loop-i-preserved
loop-i-preserved c =
    let i = c.loop-i.i in
    ap₂ ◌&&◌ c.loop-i.invariant c.words_ff-ok.ensures
    ∙ all_are_split 255 c.args.s.now c.args.a (512 * i) 512 (512 * (i + 1)) (omega arith)

pub returns : goal.returns
returns c =
    let s = c.args.s.now in
    let a = c.args.a in
    let blocks = c.args.k / 64 in
    let done : c.loop-i.i ≡ blocks = omega arith in
    ap₂ ◌&&◌ (c.loop-i.invariant ∙ ap (λ i. all_are 255 (part s a (512 * i))) done) c.words_ff.ensures
    ∙ all_are_split 255 s a (512 * blocks) (8 * (c.args.k % 64)) (8 * c.args.k) (omega arith)
