-- `rebalance::rebalance::sibling` meets its contract: of the first page the right one, else the left. Assumes nothing.
use Rattle.rebalance.proofs.Rebalancing.{sibling_right, sibling_left}
use Rattle.rebalance.proofs.rebalance.sibling.Goals as goal

pub returns-then-i-eq0 : goal.returns-then-i-eq0
returns-then-i-eq0 c = sibling_right c.args.i c.if-i-eq0.true

pub returns-else-i-eq0 : goal.returns-else-i-eq0
returns-else-i-eq0 c = sibling_left c.args.i c.if-i-eq0.false
