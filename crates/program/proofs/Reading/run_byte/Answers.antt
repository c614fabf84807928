-- `program::Reading::run_byte` meets its contract. Assumes nothing.
use Rattle.program.proofs.Laws.Pieces.{goes_end, goes_fed}
use Rattle.program.proofs.Reading.run_byte.Goals as goal

pub returns-then-b-eq10-clause-simulates_step : goal.returns-then-b-eq10-clause-simulates_step
returns-then-b-eq10-clause-simulates_step c = goes_end c.if-b-eq10.true c.end_line.ensures.simulates_step

pub returns-else-b-eq10-clause-simulates_step : goal.returns-else-b-eq10-clause-simulates_step
returns-else-b-eq10-clause-simulates_step c = goes_fed c.if-b-eq10.false c.feed.ensures.whole
