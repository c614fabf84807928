-- The entry that leads to a page meets its contract: the start is read from that page. Assumes nothing.
use Rattle.std.proofs.Common.{◌+◌, length, ap, ◌∙◌, arith}
use Rattle.rule.specs.Pairs.{none}
use Rattle.page.specs.Entries.{entry}
use Rattle.page.specs.Layout.{start_at}
use Rattle.access.proofs.Laws.{page_length}
use Rattle.rebuild.specs.Levels.{page_entry}
use Rattle.rebuild.proofs.entries.PagesFromEntries.entry.Goals as goal

pub start_at-requires : goal.start_at-requires
start_at-requires c =
    let x = c.args.self in
    omega (arith, ap length c.page_at.ensures, page_length x.half c.args.img.now (x.first + c.args.i) c.requires.within)

pub returns : goal.returns
unfolding page_entry
returns c =
    ap (λ t. entry t none (c.args.self.first + c.args.i)) (c.start_at.ensures ∙ ap (λ s. start_at s 0) c.page_at.ensures)
