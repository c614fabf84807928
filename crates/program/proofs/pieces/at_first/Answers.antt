-- `program::pieces::at_first` meets its contract. Assumes nothing.
use Rattle.std.proofs.Common.{refl}
use Rattle.program.proofs.Laws.Pieces.{begins}
use Rattle.program.proofs.pieces.at_first.Goals as goal

pub returns : goal.returns
returns c = begins c.new.ensures refl refl
