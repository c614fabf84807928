-- `neighbours::leaves::sums_apart` meets its contract: sums of which the bits differ are apart. Assumes nothing.
use Rattle.std.proofs.Common.{◌≡◌, ℕ, suc, ◌+◌, ◌&&◌, sym, ap, ap₂, ◌∙◌, arith}
use native.Mathlib.Numerals.{add-one}
use Rattle.fields.specs.Bytes.{every}
use Rattle.fields.proofs.Laws.Tests.{every_none, every_more}
use Rattle.page.specs.Layout.{pair_at}
use Rattle.neighbours.specs.Edges.{next_differs}
use Rattle.neighbours.proofs.Laws.{bits_apart}
use Rattle.neighbours.proofs.leaves.sums_apart.Goals as goal

pub loop-i-init : goal.loop-i-init
loop-i-init c = sym (every_none _)

pub loop-i-preserved : goal.loop-i-preserved
loop-i-preserved c =
    let at = pair_at c.args.half c.args.s.now in
    let i = c.args.a + c.loop-i.i in
    ap₂ ◌&&◌ c.loop-i.invariant
    (bits_apart (at i) (at (suc i)) (omega arith) (omega arith) c.sum_bits_at.ensures
    (c.sum_bits_at-in-loop-i.ensures ∙ ap (λ (n : ℕ). (at n).sum) (add-one i)) c.if-sum_bits_at.false)
    ∙ sym (every_more c.loop-i.i (λ j. next_differs c.args.half c.args.s.now (c.args.a + j)))

pub returns : goal.returns
returns c f =
    let all : c.loop-i.i ≡ c.args.k = omega arith in
    sym (c.loop-i.invariant ∙ ap (λ n. every n (λ j. next_differs c.args.half c.args.s.now (c.args.a + j))) all)
