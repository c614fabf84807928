-- `rebuild::sizes::tree_size` meets its contract: no level, one more, all. Assumes nothing.
use Rattle.std.proofs.Common.{arith}
use Rattle.tight.proofs.Pages.{pages_fewer}
use Rattle.rebuild.proofs.Laws.Sizes.{counted_none, counted_more, counted_most, counted_all}
use Rattle.rebuild.proofs.sizes.tree_size.Goals as goal

pub loop-level-init : goal.loop-level-init
loop-level-init c = counted_none c.args.half c.requires.0 c.args.m c.requires.2 c.pages_for-level.ensures

pub overflow_add-pages : goal.overflow_add-pages
overflow_add-pages c =
    let next = counted_more c.args.half c.requires.0 c.loop-level.invariant (omega arith) c.pages_for-level-in-loop-level.ensures in
    omega (arith, counted_most c.args.half c.requires.0 next c.requires.2)

pub overflow_add-height : goal.overflow_add-height
overflow_add-height c =
    let next = counted_more c.args.half c.requires.0 c.loop-level.invariant (omega arith) c.pages_for-level-in-loop-level.ensures in
    omega (arith, next.low, counted_most c.args.half c.requires.0 next c.requires.2)

pub loop-level-smaller : goal.loop-level-smaller
loop-level-smaller c = omega (arith, pages_fewer c.args.half c.loop-level.level (omega arith) (omega arith))

pub loop-level-preserved : goal.loop-level-preserved
loop-level-preserved c = counted_more c.args.half c.requires.0 c.loop-level.invariant (omega arith) c.pages_for-level-in-loop-level.ensures

pub returns : goal.returns
returns c = counted_all c.args.half c.requires.0 c.loop-level.invariant (omega arith)
