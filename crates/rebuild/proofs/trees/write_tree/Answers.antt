-- `rebuild::trees::write_tree` meets its contract: the leaves, one more level, all. Assumes nothing.
use Rattle.std.proofs.Common.{suc, ◌*◌, ◌≤◌, length, arith}
use native.Mathlib.Nat.{mul-le-mul_left}
use Rattle.page.specs.Layout.{page_size}
use Rattle.tight.specs.Tight.{pages_used}
use Rattle.tight.proofs.Pages.{pages_fewer}
use Rattle.tight.proofs.Levels.{leaves_used}
use Rattle.rebuild.proofs.Laws.Tree.{grown_none, grown_room, grown_more, grown_all}
use Rattle.rebuild.proofs.trees.write_tree.Goals as goal

pub write_leaves-requires-clause-room : goal.write_leaves-requires-clause-room
write_leaves-requires-clause-room c =
    let half = c.args.half in
    let m = c.args.runs in
    let few : suc c.pages_for-n.result ≤ suc (pages_used half m) = omega (arith, c.pages_for-n.ensures, leaves_used half m c.requires.some_runs.2) in
    omega (arith, mul-le-mul_left (page_size half) few)

pub loop-n-init : goal.loop-n-init
loop-n-init c s long wrote =
    let pre = c.requires.some_runs in
    grown_none c.args.half s pre.0 c.args.runs pre.2 c.pages_for-n.ensures long wrote

pub write_level-requires : goal.write_level-requires
write_level-requires c =
    let pre = c.requires.some_runs in
    let half = c.args.half in
    let grown = c.loop-n.invariant c.args.img.now (omega arith) c.write_leaves.ensures in
    let room = grown_room half c.args.img.now pre.0 c.args.runs c.requires.room.1 grown (omega arith) c.pages_for-pages.ensures in
    omega (arith, room, c.requires, c.pages_for-pages.ensures, grown.long, mul-le-mul_left (page_size half) room)

pub overflow_add-level : goal.overflow_add-level
overflow_add-level c =
    let pre = c.requires.some_runs in
    let grown = c.loop-n.invariant c.args.img.now (omega arith) c.write_leaves.ensures in
    let room = grown_room c.args.half c.args.img.now pre.0 c.args.runs c.requires.room.1 grown (omega arith) c.pages_for-pages.ensures in
    omega (arith, room, grown.low)

pub overflow_add-below : goal.overflow_add-below
overflow_add-below c =
    let pre = c.requires.some_runs in
    let grown = c.loop-n.invariant c.args.img.now (omega arith) c.write_leaves.ensures in
    let room = grown_room c.args.half c.args.img.now pre.0 c.args.runs c.requires.room.1 grown (omega arith) c.pages_for-pages.ensures in
    omega (arith, room)

pub loop-n-smaller : goal.loop-n-smaller
loop-n-smaller c = omega (arith, c.pages_for-pages.ensures, pages_fewer c.args.half c.loop-n.n (omega arith) (omega arith))

pub loop-n-preserved : goal.loop-n-preserved
loop-n-preserved c s long wrote =
    let pre = c.requires.some_runs in
    let half = c.args.half in
    let fits : page_size half * suc (pages_used half c.args.runs) ≤ length s = omega (arith, c.requires.room.1) in
    grown_more half s pre.0 c.args.runs fits (c.loop-n.invariant s long wrote) (omega arith) c.pages_for-pages.ensures (omega arith)
    c.write_level.ensures

pub returns : goal.returns
returns c =
    let grown = c.loop-n.invariant c.args.img.now (omega arith) c.write_leaves.ensures in
    grown_all c.args.half c.args.img.now c.requires.some_runs.0 c.args.runs c.requires.room.1 grown (omega arith)
