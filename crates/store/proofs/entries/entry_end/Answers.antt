-- `entry_end` meets its contract: the part lent is the page, and its starts are its entries'. Assumes nothing.
use Rattle.std.proofs.Common.{◌∙◌, arith}
use Rattle.store.proofs.Reading.{lent_within, lent_size, lent_read, lent_end}
use Rattle.store.proofs.entries.entry_end.Goals as goal

pub page_at-requires : goal.page_at-requires
page_at-requires c = lent_within c.requires.holds c.requires.ready.1.tree_page

pub end_at-requires : goal.end_at-requires
end_at-requires c =
    let h = c.requires.holds in
    let k = c.requires.ready.1 in
    let same = c.page_at.ensures in
    let r = lent_read h k.tree_page same in
    let size = lent_size h k.tree_page same in
    (omega (arith, size, r.len, r.few), omega (arith, size, k.inside, r.few))

pub returns : goal.returns
returns c X h l k = c.end_at.ensures ∙ lent_end h k.tree_page c.page_at.ensures _ _
