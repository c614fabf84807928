-- `next_free` meets its contract: the part lent is the free page. Assumes nothing.
use Rattle.std.proofs.Common.{ap, ◌∙◌, arith}
use Rattle.page.specs.Layout.{next_of}
use Rattle.store.proofs.Encoding.{some_long, some_size, holds_next}
use Rattle.store.proofs.pages.next_free.Goals as goal

pub page_at-requires : goal.page_at-requires
page_at-requires c = some_long c.requires

pub next_of-requires : goal.next_of-requires
next_of-requires c = omega (arith, some_size c.requires c.page_at.ensures)

pub returns : goal.returns
returns c X h w next e = c.next_of.ensures ∙ ap next_of c.page_at.ensures ∙ holds_next h w e
