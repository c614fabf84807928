-- `rule::combine::best` meets its contract. Assumes nothing.
use Rattle.std.proofs.Common.{◌∙◌, to_z-of_z, w64, SFits, rules, eq-eqb, ne_eqb}
use Rattle.rule.proofs.Order.{max_greater, min_lesser}
use Rattle.rule.proofs.combine.best.Goals as goal

pub returns-then-kind-eq-GREATEST : goal.returns-then-kind-eq-GREATEST
returns-then-kind-eq-GREATEST c =
    let r : SFits w64 c.max.result = search rules in
    let e = rw (to_z-of_z c.ranges.a, to_z-of_z c.ranges.b) at c.max.ensures.value in
    rw (to_z-of_z r, eq-eqb c.args.kind 2 c.if-kind-eq-GREATEST.true) (e ∙ max_greater c.args.a c.args.b)

pub returns-else-kind-eq-GREATEST : goal.returns-else-kind-eq-GREATEST
returns-else-kind-eq-GREATEST c =
    let r : SFits w64 c.min.result = search rules in
    let e = rw (to_z-of_z c.ranges.a, to_z-of_z c.ranges.b) at c.min.ensures.value in
    rw (to_z-of_z r, ne_eqb c.args.kind 2 c.if-kind-eq-GREATEST.false) (e ∙ min_lesser c.args.a c.args.b)
