-- `entry_of` meets its contract: the part lent is the page, and its i-th entry is among its entries. Assumes nothing.
use Rattle.std.proofs.Common.{◌∙◌, arith}
use Rattle.store.proofs.Reading.{lent_within, lent_size, lent_read, lent_entry}
use Rattle.store.proofs.entries.entry_of.Goals as goal

pub page_at-requires : goal.page_at-requires
page_at-requires c = lent_within c.requires.holds c.requires.ready.1.tree_page

pub entry_at-requires : goal.entry_at-requires
entry_at-requires c =
    let h = c.requires.holds in
    let k = c.requires.ready.1 in
    let same = c.page_at.ensures in
    (lent_size h k.tree_page same, omega (arith, k.inside, (lent_read h k.tree_page same).few))

pub returns : goal.returns
returns c X h l k = c.entry_at.ensures ∙ lent_entry h k.tree_page c.page_at.ensures _ k.inside
