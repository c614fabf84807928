-- `program::Reading::flush` meets its contract. Assumes nothing.
use Rattle.program.proofs.Laws.Pieces.{turns}
use Rattle.program.proofs.Reading.flush.Goals as goal

pub returns-clause-flushes : goal.returns-clause-flushes
returns-clause-flushes c = turns
