-- `take_effect` meets its contract. Assumes nothing.
use Rattle.combine_span.proofs.Taken as turns
use Rattle.combine_span.proofs.entries.take_effect.Goals as goal

pub loop-i-init : goal.loop-i-init
loop-i-init c = turns.none _ _ _ c.entry_count_in-i-end.ensures

pub entry_takes-requires : goal.entry_takes-requires
entry_takes-requires c = turns.ready _ _ _ c.loop-i.invariant c.loop-i-test.true c.requires

pub loop-i-preserved : goal.loop-i-preserved
loop-i-preserved c =
    turns.more _ _ _ c.loop-i.invariant c.loop-i-test.true c.entry_takes.ensures c.entry_takes.auto.img

pub returns : goal.returns
returns c = turns.all _ _ _ c.loop-i.invariant c.loop-i-test.false
