-- `program::printed::put_runs` meets its contract: one run behind the other. Assumes nothing.
use Rattle.program.proofs.Laws.Runs.{printing_none, printing_more, printing_all}
use Rattle.program.proofs.printed.put_runs.Goals as goal

pub loop-i-init : goal.loop-i-init
loop-i-init c = printing_none _ _ _ c.requires.at_in_bounds

pub loop-i-preserved : goal.loop-i-preserved
loop-i-preserved c = printing_more c.loop-i.invariant c.loop-i-test.true c.put_one.ensures

pub returns : goal.returns
returns c = printing_all c.loop-i.invariant c.loop-i-test.false
