-- `rebuild::images::write_ends` meets its contract: two writes, the first up to the end. Assumes nothing.
use Rattle.std.proofs.Common.{◌≡◌, ◌*◌, ◌-◌, length, ap, ◌∙◌, arith}
use native.Mathlib.Nat.{mul-le-mul_left}
use Rattle.fields.specs.Bytes.{patch, unused}
use Rattle.page.specs.Layout.{page_size, head_bytes}
use Rattle.page.proofs.Laws.Lent.{back_first}
use Rattle.rebuild.proofs.images.write_ends.Goals as goal

pub returns : goal.returns
unfolding unused
returns c =
    let args = c.args in
    let s = args.img.now in
    let end : c.page_size.result * args.h.mark ≡ page_size args.half * args.h.mark = ap (λ k. k * args.h.mark) c.page_size.ensures in
    back_first c.fill.new.s (page_size args.half) c.page_range.ensures
    (omega (arith, mul-le-mul_left (page_size args.half) c.requires.2)) c.write_head.auto.s c.write_head.ensures
    ∙ ap (λ t. patch t 0 (head_bytes args.half args.h)) (c.fill.ensures ∙ (λ j. patch s (end j) (unused (length s - end j))))
