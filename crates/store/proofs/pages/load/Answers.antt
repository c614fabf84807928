-- `load` meets its contract: the page's bytes are those of the tree page. Assumes nothing.
use Rattle.std.proofs.Common.{ℕ, List, arith}
use mathlib.Core.Path.{subst}
use Rattle.page.specs.Decoded.{Read}
use Rattle.store.proofs.Encoding.{some_long, some_size, holds_tree}
use Rattle.store.proofs.pages.load.Goals as goal

pub page_at-requires : goal.page_at-requires
page_at-requires c = some_long c.requires

pub read_page-requires : goal.read_page-requires
read_page-requires c = (omega (arith, c.requires.holds.half_most), some_size c.requires c.page_at.ensures)

pub returns : goal.returns
returns c X h l t =
    holds_tree h t
    (subst (λ (s : List ℕ). Read c.args.half c.read_page.result s) c.page_at.ensures c.read_page.ensures)
