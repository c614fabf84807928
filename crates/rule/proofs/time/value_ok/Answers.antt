-- `rule::time::value_ok` meets its contract. Assumes nothing.
use Rattle.std.proofs.Common.{leb, ap, to_z-of_z}
use Rattle.rule.specs.Time.{value_ok}
use Rattle.rule.proofs.time.value_ok.Goals as goal

pub returns : goal.returns
unfolding value_ok
returns c = ap (λ n. leb n 1000000) (rw (to_z-of_z c.ranges.v) at c.unsigned_abs.ensures.value)
