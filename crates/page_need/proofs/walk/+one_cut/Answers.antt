-- `page_need::walk::one_cut` meets its contract. The level falls. Assumes nothing.
use Rattle.std.proofs.Common.{arith}
use Rattle.image.specs.Images.{image_of}
use Rattle.page_need.proofs.Below.{fit_some, found_below, found_most, found_leads, leads_on}
use Rattle.page_need.proofs.Walks.{one_leaf, one_small, one_inner}
use Rattle.page_need.proofs.walk.+one_cut.Goals as goal

pub returns-then-level-eq0 : goal.returns-then-level-eq0
returns-then-level-eq0 n c =
    one_leaf _ c.args.t (image_of c.args.half c.args.img.now) c.args.level c.args.e c.if-level-eq0.true c.leaf_need.ensures

pub find_entry-found-requires : goal.find_entry-found-requires
find_entry-found-requires n c = fit_some (leads_on c.args.e c.requires c.if-level-eq0.false)

-- the page under the entry has been searched
pub one_cut-requires : goal.one_cut-requires
one_cut-requires n c =
    let k = found_below c.args.e c.requires c.if-level-eq0.false c.find_entry-found.ensures in
    (omega (arith, c.decreases, k.inner), found_leads k)

pub page_need-requires : goal.page_need-requires
page_need-requires n c =
    let k = found_below c.args.e c.requires c.if-level-eq0.false c.find_entry-found.ensures in
    (k.page.holds.half_most, found_most k, one_small k c.one_cut.ensures)

pub returns : goal.returns
returns n c =
    let k = found_below c.args.e c.requires c.if-level-eq0.false c.find_entry-found.ensures in
    one_inner k c.one_cut.ensures c.page_need.ensures
