-- `heal::carry::carry` meets its contract: the page is written only at an edge, and only if its entry started at t. Assumes nothing.
use Rattle.std.proofs.Common.{subst}
use Rattle.store.specs.Encoding.{Encodes}
use Rattle.heal.proofs.Carrying.{first_below, carry_none, carry_kept, carry_set}
use Rattle.heal.proofs.carry.carry.Goals as goal

pub returns-else-edge : goal.returns-else-edge
returns-else-edge c X h v s =
    subst (Encodes _ _) (carry_none _ c.args.t _ c.args.p c.args.i X c.if-edge.false) h

-- ---- at an edge

pub returns-then-e-t : goal.returns-then-e-t
returns-then-e-t c X h v s =
    let on = c.if-edge.true in
    let k = s on in
    let same = c.entry_of-e.ensures X h _ k.has in
    subst (Encodes _ _)
    (carry_set _ c.args.t _ c.args.p c.args.i X same on c.if-e-t.true
    (c.entry_of-first.ensures X h v (first_below k same)))
    (c.set_entry.ensures X h _ k.has)

pub returns-else-e-t : goal.returns-else-e-t
returns-else-e-t c X h v s =
    let k = s c.if-edge.true in
    subst (Encodes _ _) (carry_kept _ c.args.t _ c.args.p c.args.i X (c.entry_of-e.ensures X h _ k.has) c.if-e-t.false) h
