-- `rule::time::overlaps` meets its contract: it is the definition. Assumes nothing.
use Rattle.std.proofs.Common.{refl}
use Rattle.rule.specs.Time.{overlaps}
use Rattle.rule.proofs.time.overlaps.Goals as goal

pub returns : goal.returns
unfolding overlaps
returns c = refl
