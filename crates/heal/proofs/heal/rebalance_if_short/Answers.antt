-- `heal::heal::rebalance_if_short` meets its contract: a page that is short is rebalanced, another one stays. Assumes nothing.
use Rattle.std.proofs.Common.{subst}
use Rattle.store.specs.Encoding.{Encodes}
use Rattle.store.proofs.Encoding.{from}
use Rattle.heal.proofs.Paths.{rebalances_rebalanceable, if_short_rebalanced, if_short_kept}
use Rattle.heal.proofs.heal.rebalance_if_short.Goals as goal

pub rebalance-requires : goal.rebalance-requires
rebalance-requires c =
    from c.requires
    (λ X h s.
    let n = c.entry_count_in.ensures X h _ s.1.tree_page in
    record { image = X; holds = h; ready = (_, rebalances_rebalanceable _ c.args.q X n.0 c.if-entry_count_in-half.true s.1) })

pub returns-then-entry_count_in-half : goal.returns-then-entry_count_in-half
returns-then-entry_count_in-half c X h v s =
    let n = c.entry_count_in.ensures X h v s.tree_page in
    let few = c.if-entry_count_in-half.true in
    subst (Encodes _ _) (if_short_rebalanced _ c.args.q X n.0 c.args.kind v c.args.p c.args.i few)
    (c.rebalance.ensures X h v (rebalances_rebalanceable _ c.args.q X n.0 few s))

pub returns-else-entry_count_in-half : goal.returns-else-entry_count_in-half
returns-else-entry_count_in-half c X h v s =
    let n = c.entry_count_in.ensures X h v s.tree_page in
    subst (Encodes _ _) (if_short_kept _ c.args.q X n.0 c.args.kind v c.args.p c.args.i c.if-entry_count_in-half.false) h
