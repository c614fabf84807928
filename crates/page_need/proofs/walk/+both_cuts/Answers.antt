-- `page_need::walk::both_cuts` meets its contract. The level falls. Assumes nothing.
use Rattle.std.proofs.Common.{arith}
use Rattle.image.specs.Images.{image_of}
use Rattle.page_need.proofs.Below.{fit_some, leads_on, later_fit, found_below, found_later, found_most, found_leads}
use Rattle.page_need.proofs.Walks.{small_leaf, both_leaf, same_small, same_inner, apart_small, apart_inner}
use Rattle.page_need.proofs.walk.+both_cuts.Goals as goal

-- ---- a leaf entry

pub add-requires : goal.add-requires
add-requires n c =
    (small_leaf c.args.s c.args.e c.leaf_need.ensures, small_leaf c.args.t c.args.e c.leaf_need-then-level-eq0.ensures)

pub returns-then-level-eq0 : goal.returns-then-level-eq0
returns-then-level-eq0 n c =
    both_leaf _ c.args.s c.args.t (image_of c.args.half c.args.img.now) c.args.level c.args.e c.if-level-eq0.true c.leaf_need.ensures
    c.leaf_need-then-level-eq0.ensures c.add.ensures

-- ---- where the page under the entry had been searched for the earlier instant

pub find_entry-first-requires : goal.find_entry-first-requires
find_entry-first-requires n c = fit_some (leads_on c.args.e c.requires.leads c.if-level-eq0.false)

pub both_cuts-requires : goal.both_cuts-requires
both_cuts-requires n c =
    let k = found_below c.args.e c.requires.leads c.if-level-eq0.false c.find_entry-first.ensures in
    (omega (arith, c.decreases, k.inner), (found_leads k, (c.requires.order.0, c.if-t-first.true)))

pub page_need-requires : goal.page_need-requires
page_need-requires n c =
    let k = found_below c.args.e c.requires.leads c.if-level-eq0.false c.find_entry-first.ensures in
    (k.page.holds.half_most, found_most k, same_small k c.requires.order.0 c.both_cuts.ensures)

pub returns-then-t-first : goal.returns-then-t-first
returns-then-t-first n c =
    let k = found_below c.args.e c.requires.leads c.if-level-eq0.false c.find_entry-first.ensures in
    same_inner k c.requires.order.0 c.both_cuts.ensures c.if-t-first.true c.page_need.ensures

-- ---- and for the later one

pub find_entry-second-requires : goal.find_entry-second-requires
find_entry-second-requires n c =
    let k = found_below c.args.e c.requires.leads c.if-level-eq0.false c.find_entry-first.ensures in
    fit_some (later_fit k.page c.requires.order.0)

pub parted_cuts-requires-clause-leads : goal.parted_cuts-requires-clause-leads
parted_cuts-requires-clause-leads n c =
    found_leads (found_below c.args.e c.requires.leads c.if-level-eq0.false c.find_entry-first.ensures)

pub parted_cuts-requires-clause-leads_later : goal.parted_cuts-requires-clause-leads_later
parted_cuts-requires-clause-leads_later n c =
    let k = found_below c.args.e c.requires.leads c.if-level-eq0.false c.find_entry-first.ensures in
    found_leads (found_later c.args.e k c.requires.order.0 c.find_entry-second.ensures)

pub page_need-requires-2 : goal.page_need-requires-2
page_need-requires-2 n c =
    let k = found_below c.args.e c.requires.leads c.if-level-eq0.false c.find_entry-first.ensures in
    let second = found_later c.args.e k c.requires.order.0 c.find_entry-second.ensures in
    (k.page.holds.half_most, found_most k, apart_small k c.requires.order.0 second c.parted_cuts.ensures)

pub returns : goal.returns
returns n c =
    let k = found_below c.args.e c.requires.leads c.if-level-eq0.false c.find_entry-first.ensures in
    let second = found_later c.args.e k c.requires.order.0 c.find_entry-second.ensures in
    apart_inner k c.requires.order.0 second c.parted_cuts.ensures c.requires.order.1 c.if-t-first.false c.page_need-2.ensures
