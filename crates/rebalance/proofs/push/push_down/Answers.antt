-- `rebalance::push::push_down` meets its contract: the loop's invariant is that so many entries have the pair. Assumes nothing.
use Rattle.rebalance.proofs.Pushing.{none, next, more, all}
use Rattle.rebalance.proofs.push.push_down.Goals as goal

pub loop-i-init : goal.loop-i-init
loop-i-init c = none _ _ (λ X h v s. (c.entry_count_in-i-end.ensures X h v s.tree_page).0)

pub push_entry-requires : goal.push_entry-requires
push_entry-requires c = next _ _ c.loop-i.invariant c.loop-i-test.true c.requires

pub loop-i-preserved : goal.loop-i-preserved
loop-i-preserved c = more _ _ c.loop-i.invariant c.loop-i-test.true c.push_entry.auto.img c.push_entry.ensures

pub returns : goal.returns
returns c = all _ _ c.loop-i.invariant c.loop-i-test.false
