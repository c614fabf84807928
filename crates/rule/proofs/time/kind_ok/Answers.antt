-- `rule::time::kind_ok` meets its contract: the range's ends are the definition's. Assumes nothing.
use Rattle.std.proofs.Common.{rules}
use Rattle.rule.specs.Time.{kind_ok}
use Rattle.rule.proofs.time.kind_ok.Goals as goal

pub returns : goal.returns
unfolding kind_ok
returns c = rw (c.contains.ensures.value) (search (rules, c.new.ensures.start, c.new.ensures.end, c.new.ensures.exhausted))
