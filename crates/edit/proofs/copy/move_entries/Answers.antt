-- `edit::copy::move_entries` meets its contract: a turn moves an entry. Assumes nothing.
use Rattle.std.proofs.Common.{rules, arith}
use Rattle.edit.proofs.Moved.{moved_none, moved_more, moved_all}
use Rattle.edit.proofs.copy.move_entries.Goals as goal

pub loop-i-init : goal.loop-i-init
loop-i-init c = moved_none _ _ _ (search rules)

pub loop-i-preserved : goal.loop-i-preserved
loop-i-preserved c =
    moved_more _ _ _ _ c.set_entry.ensures c.entry.ensures (omega (arith, c.loop-i.invariant.begun)) c.loop-i.invariant

pub returns : goal.returns
returns c = moved_all _ _ _ (omega arith) c.loop-i.invariant
