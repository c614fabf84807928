-- `fit::entry_count::fewest` meets its contract: by the context. Assumes nothing.
use Rattle.std.proofs.Common.{eq-eqb, ne_eqb}
use borrow.Author.Tests.{not-true, not-false}
use Rattle.page.specs.Fit.{fewest}
use Rattle.fit.proofs.entry_count.fewest.Goals as goal

pub returns-then-not-at : goal.returns-then-not-at
unfolding fewest
returns-then-not-at c = rw (not-true c.args.at.is_root c.if-not-at.true)

pub returns-then-at-eq0 : goal.returns-then-at-eq0
unfolding fewest
returns-then-at-eq0 c = rw (not-false c.args.at.is_root c.if-not-at.false, eq-eqb _ _ c.if-at-eq0.true)

pub returns-else-at-eq0 : goal.returns-else-at-eq0
unfolding fewest
returns-else-at-eq0 c = rw (not-false c.args.at.is_root c.if-not-at.false, ne_eqb _ _ c.if-at-eq0.false)
