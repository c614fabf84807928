-- `listing::bottom::walk_leaves` meets its contract: the leaves in turn. Assumes nothing.
use Rattle.listing.specs.Walks.{page_walk, Room}
use Rattle.listing.proofs.Laws.Ranges.{comes, turning_none, turning_met, turning_room, turning_more, turning_unfit, turning_all}
use Rattle.listing.proofs.Laws.Loops.{does_stopped, room_known, opened_unfit}
use Rattle.listing.proofs.Laws.Bottom.{leaves_ranged, leaf_entry, Leaf, leaf_at, leaf_room, leaf_does}
use Rattle.listing.proofs.bottom.walk_leaves.Given.{Over}
use Rattle.listing.proofs.bottom.walk_leaves.Goals as goal
use Rattle.listing.proofs.bottom.walk_leaves.Goals.{After-leaf_cursor-leaf}

pub loop-i-init : goal.loop-i-init
loop-i-init g c =
    turning_none (leaves_ranged c.requires.fit_page c.leaf_range-i-items.ensures c.requires.valid_cursor.half_most)
    c.into_iter-i-iterator.ensures.into_iter_gives c.requires.room

-- the leaf of this turn
here : (g : Over) (c : After-leaf_cursor-leaf g) → Leaf c.args.img.now c.args.q c.args.on c.in-Some.i c.leaf_cursor-leaf.result
here g c =
    let l =
    turning_met c.loop-i.invariant (comes _ c.next.new.self c.in-Some.ensures.steps) c.into_iter-i-iterator.ensures.into_iter_gives in
    leaf_at c.requires.valid_cursor c.requires.low (leaf_entry c.requires.fit_page c.leaf_range-i-items.ensures l.0 l.1)
    c.leaf_cursor-leaf.ensures

room_here : (g : Over) (c : After-leaf_cursor-leaf g)
    → Room c.args.q.known g.P.Pass.writes c.loop-i.last (page_walk c.args.img.now c.args.q c.leaf_cursor-leaf.result) c.loop-i.out
room_here g c = leaf_room (here g c) (turning_room c.loop-i.invariant (comes _ c.next.new.self c.in-Some.ensures.steps))

pub leaf_cursor-leaf-requires-clause-valid_entry : goal.leaf_cursor-leaf-requires-clause-valid_entry
leaf_cursor-leaf-requires-clause-valid_entry g c =
    let l =
    turning_met c.loop-i.invariant (comes _ c.next.new.self c.in-Some.ensures.steps) c.into_iter-i-iterator.ensures.into_iter_gives in
    leaf_entry c.requires.fit_page c.leaf_range-i-items.ensures l.0 l.1

pub check_page-requires : goal.check_page-requires
check_page-requires g c =
    let before = (goal.at.check_page-requires g c).After-leaf_cursor-leaf in
    record { valid_cursor = (here g before).stands; known_fit = room_known _ _ _ (room_here g before) }

pub returns-in_err-m : goal.returns-in_err-m
returns-in_err-m g c =
    let leaf = here g (goal.at.returns-in_err-m g c).After-leaf_cursor-leaf in
    rw c.from_residual.ensures
    (turning_unfit c.loop-i.invariant (comes _ c.next.new.self c.in-Some.ensures.steps)
    (leaf_does leaf (rw (opened_unfit _ _ _ c.in_err-m.ensures) (does_stopped _ _ _))))

pub leaf_page-last-requires : goal.leaf_page-last-requires
leaf_page-last-requires g c =
    let before = (goal.at.leaf_page-last-requires g c).After-leaf_cursor-leaf in
    let leaf = here g before in
    record {
      valid_cursor = leaf.stands;
      fit_page = c.in_ok-m.ensures;
      leaf = leaf.bottom;
      room = room_here g before;
    }

pub loop-i-preserved : goal.loop-i-preserved
loop-i-preserved g c =
    let leaf = here g (goal.at.loop-i-preserved g c).After-leaf_cursor-leaf in
    turning_more c.loop-i.invariant (comes _ _ c.in-Some.ensures.steps) (leaf_does leaf c.leaf_page-last.ensures) c.leaf_page-last.auto.out

pub returns : goal.returns
returns g c = turning_all c.loop-i.invariant c.in-None.ensures.steps.1.0
