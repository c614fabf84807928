-- `program::pieces::begin` meets its contract. Assumes nothing.
use Rattle.program.proofs.Laws.Pieces.{begun}
use Rattle.program.proofs.pieces.begin.Goals as goal

pub returns : goal.returns
returns c = begun c.requires c.luw_format.ensures
