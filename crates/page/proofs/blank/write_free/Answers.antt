-- `page::blank::write_free` meets its contract: a free page is a page of two numbers. Assumes nothing.
use Rattle.page.specs.Layout.{free_bytes}
use Rattle.page.proofs.blank.write_free.Goals as goal

pub returns : goal.returns
unfolding free_bytes
returns c = c.write_blank.ensures
