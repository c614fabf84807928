-- `rule::time::effect_end` meets its contract. Assumes nothing.
use Rattle.rule.specs.Time.{effect_end}
use Rattle.rule.proofs.time.effect_end.Goals as goal

pub returns : goal.returns
unfolding effect_end
returns c = c.saturating_add.ensures
