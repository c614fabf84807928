-- `rebuild::sizes::pages_for` meets its contract: rounded up, a division is one more than that of all but one. Assumes nothing.
use Rattle.rebuild.proofs.Laws.Sizes.{pages_counted}
use Rattle.rebuild.proofs.sizes.pages_for.Goals as goal

pub returns : goal.returns
returns c = pages_counted c.args.half c.args.m c.requires.0 c.requires.2 c.capacity-k.ensures
