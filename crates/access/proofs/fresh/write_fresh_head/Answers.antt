-- `access::fresh::write_fresh_head` meets its contract: the numbers are those of the fresh image's head. Assumes nothing.
use Rattle.page.proofs.Laws.Lent.{back_first}
use Rattle.image.specs.Images.{fresh}
use Rattle.access.proofs.fresh.write_fresh_head.Goals as goal

pub returns : goal.returns
unfolding fresh
returns c = back_first _ _ c.page_range.ensures c.requires.1 c.write_head.auto.s c.write_head.ensures
