-- `fit::entries::overstep` meets its contract: the top bits of its four parts are those of the test. Assumes nothing.
use Rattle.std.proofs.Common.{◌/◌, ◌^◌, ◌&&◌, leb, bit_or, ap, ◌∙◌, ap₂, add-one}
use Rattle.rule.proofs.Wrapped.{top_or}
use Rattle.fit.specs.Limits.{allows}
use Rattle.fit.proofs.entries.overstep.Goals as goal

pub returns : goal.returns
unfolding allows
returns c =
    let next = add-one (c.args.mark / 2 ^ 32) in
    let a = c.at_most.result in
    let b = c.at_most-2.result in
    let d = c.within.result in
    let e = c.at_most-3.result in
    top_or (bit_or a b) (bit_or d e)
    ∙ ap₂ ◌&&◌
    (top_or a b ∙ ap₂ ◌&&◌ c.at_most.ensures (c.at_most-2.ensures ∙ ap (λ k. leb k c.args.l.past) next))
    (top_or d e ∙ ap₂ ◌&&◌ c.within.ensures c.at_most-3.ensures)
