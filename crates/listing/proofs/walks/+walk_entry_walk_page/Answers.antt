-- The cycle of `walk_entry` and `walk_page` meets its contracts. Assumes nothing.
use Rattle.std.proofs.Common.{arith}
use Rattle.listing.proofs.Laws.Stands.{step_down}
use Rattle.listing.proofs.Laws.Ranges.{comes, turning_none, turning_met, turning_room, turning_more, turning_unfit, turning_all}
use Rattle.listing.proofs.Laws.Loops.{does_stopped, room_below, does_below, room_known, opened_unfit, entries_ranged, entry_met}
use Rattle.listing.proofs.walks.+walk_entry_walk_page.Goals as goal

-- ---- an entry

pub walk_entry-check_page-requires : goal.walk_entry-check_page-requires
walk_entry-check_page-requires g t c =
    let w = c.requires in
    let down = c.cursor_below-below.ensures in
    record {
      valid_cursor = (step_down w.valid_cursor w.valid_entry down w.inner).0;
      known_fit = room_known _ _ _ (room_below w.valid_entry w.inner down w.room);
    }

pub walk_entry-returns-in_err-n : goal.walk_entry-returns-in_err-n
walk_entry-returns-in_err-n g t c =
    rw c.from_residual.ensures
    (does_below c.requires.valid_entry c.requires.inner c.cursor_below-below.ensures
    (rw (opened_unfit _ _ _ c.in_err-n.ensures) (does_stopped _ _ _)))

pub walk_entry-walk_page-requires : goal.walk_entry-walk_page-requires
walk_entry-walk_page-requires g t c κs within =
    let w = c.requires in
    let down = c.cursor_below-below.ensures in
    let stands = step_down w.valid_cursor w.valid_entry down w.inner in (
      omega (arith, stands.1, c.decreases),
      (within, (stands.0, (c.in_ok-n.ensures, room_below w.valid_entry w.inner down w.room))),
    )

pub walk_entry-returns : goal.walk_entry-returns
walk_entry-returns g t c = does_below c.requires.valid_entry c.requires.inner c.cursor_below-below.ensures c.walk_page.ensures

-- ---- a page

pub walk_page-loop-i-init : goal.walk_page-loop-i-init
walk_page-loop-i-init g t c =
    let w = c.requires in
    turning_none (entries_ranged _ _ _ w.valid_cursor.half_most w.fit_page c.entries_met-i-items.ensures)
    c.into_iter-i-iterator.ensures.into_iter_gives w.room

pub walk_page-walk_entry-requires : goal.walk_page-walk_entry-requires
walk_page-walk_entry-requires g t c κs within =
    let w = c.requires in
    let now = comes c.loop-i.i-iterator c.next.new.self c.in-Some.ensures.steps in
    let l = turning_met c.loop-i.invariant now c.into_iter-i-iterator.ensures.into_iter_gives in (
      omega (arith, c.decreases),
      (
        within,
        (
          w.valid_cursor,
          (entry_met _ _ _ w.fit_page c.entries_met-i-items.ensures l.0 l.1, (omega arith, turning_room c.loop-i.invariant now)),
        ),
      ),
    )

pub walk_page-returns-in_err-last : goal.walk_page-returns-in_err-last
walk_page-returns-in_err-last g t c =
    rw c.from_residual.ensures
    (turning_unfit c.loop-i.invariant (comes _ c.next.new.self c.in-Some.ensures.steps) c.in_err-last.ensures)

pub walk_page-loop-i-preserved : goal.walk_page-loop-i-preserved
walk_page-loop-i-preserved g t c =
    turning_more c.loop-i.invariant (comes _ _ c.in-Some.ensures.steps) c.in_ok-last.ensures c.walk_entry.auto.out

pub walk_page-returns : goal.walk_page-returns
walk_page-returns g t c = turning_all c.loop-i.invariant c.in-None.ensures.steps.1.0
