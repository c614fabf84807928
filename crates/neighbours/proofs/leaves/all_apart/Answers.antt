-- `neighbours::leaves::all_apart` meets its contract. Assumes nothing.
use Rattle.std.proofs.Common.{◌≡◌, ◌-◌, ◌&&◌, not, sym, ap, ap₂, ◌∙◌, arith}
use native.Mathlib.Numerals.{add-one}
use Rattle.fields.specs.Bytes.{every}
use Rattle.fields.proofs.Laws.Tests.{every_none, every_more}
use Rattle.rule.specs.Pairs.{same_pair}
use Rattle.rule.proofs.Laws.{pairs_equal}
use Rattle.page.specs.Layout.{pair_at}
use Rattle.neighbours.specs.Edges.{next_differs}
use Rattle.neighbours.proofs.leaves.all_apart.Goals as goal

pub loop-i-init : goal.loop-i-init
loop-i-init c = sym (every_none _)

pub loop-i-preserved : goal.loop-i-preserved
loop-i-preserved c =
    let at = pair_at c.args.half c.args.s.now in
    let i = c.loop-i.i in
    ap₂ ◌&&◌ c.loop-i.invariant
    (c.ne-apart.ensures
    ∙ ap not
    (pairs_equal c.pair_at.result c.pair_at-in-loop-i.result
    ∙ ap₂ same_pair c.pair_at.ensures (c.pair_at-in-loop-i.ensures ∙ ap at (add-one i))))
    ∙ sym (every_more i (λ j. next_differs c.args.half c.args.s.now j))

pub returns : goal.returns
returns c =
    let e : c.loop-i.i ≡ c.args.n - 1 = omega arith in
    c.loop-i.invariant ∙ ap (λ n. every n (λ j. next_differs c.args.half c.args.s.now j)) e
