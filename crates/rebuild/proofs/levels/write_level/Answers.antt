-- `rebuild::levels::write_level` meets its contract: no page, one more, all. Assumes nothing.
use Rattle.std.proofs.Common.{◌≡◌, ℕ, List, ◌+◌, ◌*◌, ◌≤◌, ◌<◌, length, arith, sym}
use Rattle.page.specs.Layout.{page_size}
use Rattle.page.proofs.Laws.Offsets.{page_within}
use Rattle.tight.specs.Tight.{pages_for}
use Rattle.tight.proofs.Levels.{pages}
use Rattle.rebuild.proofs.Laws.Pages.{some_pages, least_few, size_told}
use Rattle.rebuild.proofs.Laws.Patches.{lead_before}
use Rattle.rebuild.proofs.Laws.Uppers.{upper_none, upper_more, upper_next, upper_all}
use Rattle.rebuild.proofs.levels.write_level.Goals as goal

-- the pages, by what counts them
room : (half n p below : ℕ) (s : List ℕ) → p ≡ pages_for half n → page_size half * (below + n + p) ≤ length s
    → page_size half * (below + n + pages half n) ≤ length s
room half n p below s e r = rw (sym e) r

pub nonzero_div-least : goal.nonzero_div-least
nonzero_div-least c = let pre = c.requires.some_pages in omega (arith, some_pages c.args.half c.args.n pre.3 pre.0 pre.2)

pub nonzero_rem-larger : goal.nonzero_rem-larger
nonzero_rem-larger c = let pre = c.requires.some_pages in omega (arith, some_pages c.args.half c.args.n pre.3 pre.0 pre.2)

pub loop-i-init : goal.loop-i-init
loop-i-init c =
    let pre = c.requires.some_pages in
    upper_none _ _ _ _ _ pre.0 pre.2 (room _ _ _ _ _ pre.3 c.requires.room.1)

pub page_entries-size-requires : goal.page_entries-size-requires
page_entries-size-requires c =
    let pre = c.requires.some_pages in
    omega (arith, least_few c.args.half c.args.n pre.3 pre.0 pre.2)

pub write_page-requires-clause-few : goal.write_page-requires-clause-few
write_page-requires-clause-few c =
    let pre = c.requires.some_pages in
    let next = upper_next _ _ _ _ _ pre.0 pre.2 (room _ _ _ _ _ pre.3 c.requires.room.1) (omega arith) c.loop-i.invariant
    (size_told c.args.half c.args.n pre.3 c.loop-i.i c.page_entries-size.ensures) in
    (pre.1, next.few)

pub write_page-requires-clause-within : goal.write_page-requires-clause-within
write_page-requires-clause-within c =
    let pre = c.requires.some_pages in
    let next = upper_next _ _ _ _ _ pre.0 pre.2 (room _ _ _ _ _ pre.3 c.requires.room.1) (omega arith) c.loop-i.invariant
    (size_told c.args.half c.args.n pre.3 c.loop-i.i c.page_entries-size.ensures) in
    omega (arith, next.page, c.loop-i.invariant.long)

-- the pages that its entries lead to lie before it
ahead : (half first i m below n k : ℕ) → first + m ≤ below + n → i < m → page_size half * (first + i) + page_size half ≤ page_size half * (below + n + k)
ahead half first i m below n k l h = let before : first + i < below + n + k = omega arith in page_within half before

pub write_page-requires-clause-before : goal.write_page-requires-clause-before
write_page-requires-clause-before c i l =
    let pre = c.requires.some_pages in
    let next = upper_next _ _ _ _ _ pre.0 pre.2 (room _ _ _ _ _ pre.3 c.requires.room.1) (omega arith) c.loop-i.invariant
    (size_told c.args.half c.args.n pre.3 c.loop-i.i c.page_entries-size.ensures) in (
      (pre.0, pre.1, omega (arith, next.leads, c.requires.room.0)),
      ahead c.args.half c.loop-i.first i c.page_entries-size.result c.args.below c.args.n c.loop-i.i next.leads l,
    )

pub write_page-requires-clause-kept : goal.write_page-requires-clause-kept
write_page-requires-clause-kept c i l s bs h =
    let pre = c.requires.some_pages in
    let next = upper_next _ _ _ _ _ pre.0 pre.2 (room _ _ _ _ _ pre.3 c.requires.room.1) (omega arith) c.loop-i.invariant
    (size_told c.args.half c.args.n pre.3 c.loop-i.i c.page_entries-size.ensures) in
    lead_before s _ bs h c.args.half (c.loop-i.first + i)
    (ahead c.args.half c.loop-i.first i c.page_entries-size.result c.args.below c.args.n c.loop-i.i next.leads l)

pub overflow_add-first : goal.overflow_add-first
overflow_add-first c =
    let pre = c.requires.some_pages in
    let next = upper_next _ _ _ _ _ pre.0 pre.2 (room _ _ _ _ _ pre.3 c.requires.room.1) (omega arith) c.loop-i.invariant
    (size_told c.args.half c.args.n pre.3 c.loop-i.i c.page_entries-size.ensures) in
    omega (arith, next.leads, c.requires.room.0)

pub loop-i-preserved : goal.loop-i-preserved
loop-i-preserved c =
    let pre = c.requires.some_pages in
    upper_more _ _ _ _ _ pre.0 pre.2 (room _ _ _ _ _ pre.3 c.requires.room.1) (omega arith) c.loop-i.invariant
    (size_told c.args.half c.args.n pre.3 c.loop-i.i c.page_entries-size.ensures) (omega arith) c.write_page.ensures

pub returns : goal.returns
returns c =
    let pre = c.requires.some_pages in
    upper_all _ _ _ _ _ pre.0 pre.2 (room _ _ _ _ _ pre.3 c.requires.room.1) (omega (arith, c.loop-i.invariant.within)) c.loop-i.invariant
