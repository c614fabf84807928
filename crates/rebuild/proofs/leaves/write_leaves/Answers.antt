-- `rebuild::leaves::write_leaves` meets its contract: no leaf, one more, all. Assumes nothing.
use Rattle.std.proofs.Common.{◌≡◌, ℕ, List, suc, ◌+◌, ◌-◌, ◌*◌, ◌≤◌, ◌<◌, length, arith, sym, subst}
use Rattle.page.specs.Layout.{page_size}
use Rattle.tight.specs.Tight.{pages_for}
use Rattle.tight.proofs.Levels.{pages}
use Rattle.rebuild.proofs.Laws.Pages.{some_pages, least_few, size_told}
use Rattle.rebuild.proofs.Laws.Patches.{run_before}
use Rattle.rebuild.proofs.Laws.Leaves.{Leaves, leaves_none, leaves_more, leaves_next, leaves_all}
use Rattle.rebuild.proofs.leaves.write_leaves.Goals as goal

-- the pages, by what counts them
room : (half m p : ℕ) (s : List ℕ) → p ≡ pages_for half m → page_size half * suc p ≤ length s → page_size half * suc (pages half m) ≤ length s
room half m p s e r = rw (sym e) r

-- a turn is for the page below the i-th
turn : {half m : ℕ} {s : List ℕ} {from : ℕ} {t : List ℕ} {i : ℕ} → 0 < i → Leaves half m s i from t → Leaves half m s (i - 1 + 1) from t
turn {half} {m} {s} {from} {t} h g = subst (λ k. Leaves half m s k from t) (omega arith) g

pub nonzero_div-least : goal.nonzero_div-least
nonzero_div-least c = let pre = c.requires.some_runs in omega (arith, some_pages c.args.half c.args.runs pre.3 pre.0 pre.2)

pub nonzero_rem-larger : goal.nonzero_rem-larger
nonzero_rem-larger c = let pre = c.requires.some_runs in omega (arith, some_pages c.args.half c.args.runs pre.3 pre.0 pre.2)

pub loop-i-init : goal.loop-i-init
loop-i-init c =
    let pre = c.requires.some_runs in
    leaves_none _ _ _ pre.0 pre.2 (room _ _ _ _ pre.3 c.requires.room) pre.3

pub page_entries-size-requires : goal.page_entries-size-requires
page_entries-size-requires c =
    let pre = c.requires.some_runs in
    omega (arith, least_few c.args.half c.args.runs pre.3 pre.0 pre.2)

pub overflow_sub-from : goal.overflow_sub-from
overflow_sub-from c =
    let pre = c.requires.some_runs in
    let next = leaves_next _ _ _ pre.0 pre.2 (room _ _ _ _ pre.3 c.requires.room) (c.loop-i.i - 1) (omega arith)
    (turn (omega arith) c.loop-i.invariant) (size_told c.args.half c.args.runs pre.3 (c.loop-i.i - 1) c.page_entries-size.ensures) in
    next.left

pub write_page-requires-clause-few : goal.write_page-requires-clause-few
write_page-requires-clause-few c =
    let pre = c.requires.some_runs in
    let next = leaves_next _ _ _ pre.0 pre.2 (room _ _ _ _ pre.3 c.requires.room) (c.loop-i.i - 1) (omega arith)
    (turn (omega arith) c.loop-i.invariant) (size_told c.args.half c.args.runs pre.3 (c.loop-i.i - 1) c.page_entries-size.ensures) in
    (pre.1, next.few)

pub write_page-requires-clause-within : goal.write_page-requires-clause-within
write_page-requires-clause-within c =
    let pre = c.requires.some_runs in
    let next = leaves_next _ _ _ pre.0 pre.2 (room _ _ _ _ pre.3 c.requires.room) (c.loop-i.i - 1) (omega arith)
    (turn (omega arith) c.loop-i.invariant) (size_told c.args.half c.args.runs pre.3 (c.loop-i.i - 1) c.page_entries-size.ensures) in
    omega (arith, next.page, c.loop-i.invariant.long)

-- the runs of the page lie before it
pub write_page-requires-clause-before : goal.write_page-requires-clause-before
write_page-requires-clause-before c i l =
    let pre = c.requires.some_runs in
    let next = leaves_next _ _ _ pre.0 pre.2 (room _ _ _ _ pre.3 c.requires.room) (c.loop-i.i - 1) (omega arith)
    (turn (omega arith) c.loop-i.invariant) (size_told c.args.half c.args.runs pre.3 (c.loop-i.i - 1) c.page_entries-size.ensures) in
    (tt, omega (arith, next.before, next.left))

pub write_page-requires-clause-kept : goal.write_page-requires-clause-kept
write_page-requires-clause-kept c i l s bs h =
    let pre = c.requires.some_runs in
    let next = leaves_next _ _ _ pre.0 pre.2 (room _ _ _ _ pre.3 c.requires.room) (c.loop-i.i - 1) (omega arith)
    (turn (omega arith) c.loop-i.invariant) (size_told c.args.half c.args.runs pre.3 (c.loop-i.i - 1) c.page_entries-size.ensures) in
    run_before s (page_size c.args.half * (c.loop-i.i - 1 + 1)) bs h (c.loop-i.from - c.page_entries-size.result + i)
    (omega (arith, next.before, next.left))

pub loop-i-preserved : goal.loop-i-preserved
loop-i-preserved c =
    let pre = c.requires.some_runs in
    leaves_more _ _ _ pre.0 pre.2 (room _ _ _ _ pre.3 c.requires.room) (c.loop-i.i - 1) (omega arith) (turn (omega arith) c.loop-i.invariant)
    (size_told c.args.half c.args.runs pre.3 (c.loop-i.i - 1) c.page_entries-size.ensures) (omega arith) c.write_page.ensures

pub returns : goal.returns
returns c =
    let pre = c.requires.some_runs in
    leaves_all _ _ _ pre.0 pre.2 (room _ _ _ _ pre.3 c.requires.room) (omega arith) c.loop-i.invariant
