-- `luwbook::Running::read_some` meets its contract, whatever the read's answer is. Assumes nothing.
use Rattle.luwbook.proofs.Laws.{takes_well}
use Rattle.luwbook.proofs.Running.read_some.Goals as goal

pub returns : goal.returns
returns c = takes_well _ _ _ _ _ c.take_in.ensures (search)
