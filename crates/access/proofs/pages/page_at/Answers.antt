-- `access::pages::page_at` meets its contract: the part lent is the page. Assumes nothing.
use Rattle.image.specs.Images.{page_at}
use Rattle.page.proofs.Laws.Lent.{lent_range}
use Rattle.access.proofs.pages.page_at.Goals as goal

pub returns : goal.returns
unfolding page_at
returns c = lent_range _ _ _ c.page_range.ensures
