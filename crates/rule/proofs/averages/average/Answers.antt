-- `rule::averages::average` meets its contract: a law for each way out. Assumes nothing.
use Rattle.std.proofs.Common.{arith, to_z-of_z, w32, w64, SFits, rules}
use mir.Facts.{sfits_widen}
use Rattle.rule.proofs.Rounding.{average_nothing, average_beyond, average_shown}
use Rattle.rule.proofs.averages.average.Goals as goal

pub returns-then-kind-count : goal.returns-then-kind-count
returns-then-kind-count c =
    let f : SFits w32 c.args.pair.count = search rules in average_nothing _ _ (rw (to_z-of_z f) at c.if-kind-count.true)

pub returns-then-unsigned_abs-le-MOST_SUM : goal.returns-then-unsigned_abs-le-MOST_SUM
returns-then-unsigned_abs-le-MOST_SUM c =
    let f : SFits w32 c.args.pair.count = search rules in
    let g : SFits w64 c.args.pair.sum = search rules in
    let r : SFits w64 c.rounded.result = search rules in
    let size = rw (to_z-of_z g) at c.unsigned_abs.ensures.value in
    let wide : SFits w64 c.args.pair.count = sfits_widen tt f in
    let from = rw (to_z-of_z f) at c.from.ensures in
    let e = rw (to_z-of_z g, from, to_z-of_z wide) at c.rounded.ensures in
    rw (to_z-of_z r, e) (average_shown _ _ (rw (to_z-of_z f) at c.if-kind-count.false) (omega arith))

pub returns : goal.returns
returns c =
    let f : SFits w32 c.args.pair.count = search rules in
    let g : SFits w64 c.args.pair.sum = search rules in
    let size = rw (to_z-of_z g) at c.unsigned_abs.ensures.value in
    average_beyond _ _ (rw (to_z-of_z f) at c.if-kind-count.false) (omega arith)
