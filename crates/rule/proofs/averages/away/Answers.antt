-- `rule::averages::away` meets its contract: by the sum's sign. Assumes nothing.
use Rattle.std.proofs.Common.{sym, to_z-of_z}
use Rattle.rule.proofs.Rounding.{signed_as_neg, signed_as_pos}
use Rattle.rule.proofs.averages.away.Goals as goal

pub returns-then-sum-lt0 : goal.returns-then-sum-lt0
returns-then-sum-lt0 c = sym (signed_as_neg _ _ (rw (to_z-of_z c.ranges.sum) at c.if-sum-lt0.true))

pub returns-else-sum-lt0 : goal.returns-else-sum-lt0
returns-else-sum-lt0 c = sym (signed_as_pos _ _ (rw (to_z-of_z c.ranges.sum) at c.if-sum-lt0.false))
