-- `page::capacities::capacity_ok` meets its contract: it is the definition. Assumes nothing.
use Rattle.std.proofs.Common.{rules}
use Rattle.page.specs.Layout.{capacity_ok}
use Rattle.page.proofs.capacities.capacity_ok.Goals as goal

pub returns : goal.returns
unfolding capacity_ok
returns c = rw (c.contains.ensures.value) (search (rules, c.new.ensures.start, c.new.ensures.end, c.new.ensures.exhausted))
