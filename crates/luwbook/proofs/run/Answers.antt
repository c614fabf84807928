-- `luwbook::run` meets what it calls asks. Assumes nothing.
use Rattle.luwbook.proofs.Laws.{begun}
use Rattle.luwbook.proofs.run.Goals as goal

pub read_all-requires : goal.read_all-requires
read_all-requires c = begun c.at_first.ensures (search)
