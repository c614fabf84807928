-- `access::lengths::page_count` meets its contract: the length by the bytes of a page. Assumes nothing.
use Rattle.std.proofs.Common.{sym, ap}
use Rattle.page.specs.Layout.{page_size}
use Rattle.access.proofs.Laws.{pages_counted}
use Rattle.access.proofs.lengths.page_count.Goals as goal

pub returns-then-half-eq-MOST_HALF : goal.returns-then-half-eq-MOST_HALF
returns-then-half-eq-MOST_HALF c = pages_counted _ _ (ap page_size (sym c.if-half-eq-MOST_HALF.true))

pub returns : goal.returns
returns c = pages_counted _ _ c.page_size.ensures
