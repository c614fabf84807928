-- `rule::time::window_ok` meets its contract: it is the definition. Assumes nothing.
use Rattle.std.proofs.Common.{refl}
use Rattle.rule.specs.Time.{window_ok}
use Rattle.rule.proofs.time.window_ok.Goals as goal

pub returns : goal.returns
unfolding window_ok
returns c = refl
