-- `rebalance::share::append_all` meets its contract: the loop's invariant is that so many entries stand behind those of page a.
-- Assumes nothing.
use Rattle.rebalance.proofs.Sharing.{append_none, append_has, append_room, append_more, append_all}
use Rattle.rebalance.proofs.share.append_all.Goals as goal

pub loop-i-init : goal.loop-i-init
loop-i-init c =
    append_none _ _ (λ X h v s. (c.entry_count_in-m.ensures X h v s.pages.left).0)
    (λ X h v s. (c.entry_count_in-i-end.ensures X h v s.pages.right).0)

pub entry_of-e-requires : goal.entry_of-e-requires
entry_of-e-requires c = append_has _ _ c.loop-i.invariant c.loop-i-test.true c.requires

pub insert_entry-requires : goal.insert_entry-requires
insert_entry-requires c = append_room _ _ c.loop-i.invariant c.loop-i-test.true c.requires

pub loop-i-preserved : goal.loop-i-preserved
loop-i-preserved c =
    append_more _ _ c.loop-i.invariant c.loop-i-test.true c.insert_entry.auto.img c.entry_of-e.ensures c.insert_entry.ensures

pub returns : goal.returns
returns c = append_all _ _ c.loop-i.invariant c.loop-i-test.false
