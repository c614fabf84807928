-- `rule::combine::combine` meets its contract: a law for each way out. Assumes nothing.
use Rattle.std.proofs.Common.{sym, ap, ◌∙◌, to_z-of_z, w64, SFits, rules, ne_eqb}
use Rattle.rule.specs.Pairs.{none, added, combine}
use Rattle.rule.proofs.Laws.{pairs_equal, fitting, combine_left, combine_right, combine_some}
use Rattle.rule.proofs.combine.combine.Goals as goal

pub returns-then-kind-eq-TOTALS : goal.returns-then-kind-eq-TOTALS
unfolding combine added
returns-then-kind-eq-TOTALS c =
    let f = fitting c.args.p c.args.q c.requires in
    rw (to_z-of_z f.sum₁, to_z-of_z f.sum₂, to_z-of_z f.count₁, to_z-of_z f.count₂, to_z-of_z f.sums, to_z-of_z f.counts)
    (sym (ap (λ k. combine k c.args.p c.args.q) c.if-kind-eq-TOTALS.true))

pub returns-then-eq : goal.returns-then-eq
returns-then-eq c = combine_left _ _ _ (sym (pairs_equal c.args.p none) ∙ sym c.eq.ensures ∙ c.if-eq.true)

pub returns-then-eq-2 : goal.returns-then-eq-2
returns-then-eq-2 c = combine_right _ _ _ (sym (pairs_equal c.args.q none) ∙ sym c.eq-2.ensures ∙ c.if-eq-2.true)

pub returns : goal.returns
returns c =
    let f = fitting c.args.p c.args.q c.requires in
    let r : SFits w64 c.best.result = search rules in
    let e = rw (to_z-of_z f.sum₁, to_z-of_z f.sum₂) at c.best.ensures in
    rw (to_z-of_z r, e)
    (combine_some c.args.kind c.args.p c.args.q (ne_eqb c.args.kind 1 c.if-kind-eq-TOTALS.false)
    (sym (pairs_equal c.args.p none) ∙ sym c.eq.ensures ∙ c.if-eq.false)
    (sym (pairs_equal c.args.q none) ∙ sym c.eq-2.ensures ∙ c.if-eq-2.false))
