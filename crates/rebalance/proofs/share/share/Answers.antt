-- `rebalance::share::share` meets its contract: the loop's invariant is that page a has so many of all. Assumes nothing.
use Rattle.rebalance.proofs.Sharing.{share_none, share_next, share_more}
use Rattle.rebalance.proofs.share.share.Goals as goal

pub loop-m-init : goal.loop-m-init
loop-m-init c = share_none _ _ _ (λ X h v s. (c.entry_count_in-m.ensures X h v s.pages.left).0)

pub move_one-m-requires : goal.move_one-m-requires
move_one-m-requires c = share_next _ _ _ c.loop-m.invariant c.loop-m-test.true c.requires

pub loop-m-preserved : goal.loop-m-preserved
loop-m-preserved c =
    share_more _ _ _ c.loop-m.invariant c.loop-m-test.true c.move_one-m.auto.img c.move_one-m.ensures.nearer
    c.move_one-m.ensures.shared
