-- `rebalance::redistribute::share_siblings` meets its contract: both pages take their pairs, and then share all entries. Assumes nothing.
use Rattle.std.proofs.Common.{subst}
use Rattle.store.specs.Encoding.{Encodes}
use Rattle.store.proofs.Encoding.{from}
use Rattle.rebalance.proofs.Outcomes.{down_sharable, shared_is}
use Rattle.rebalance.proofs.redistribute.share_siblings.Goals as goal

pub share-requires : goal.share-requires
share-requires c =
    from c.requires
    (λ X h s.
    let d = c.push_siblings-s.ensures X h _ s.1.siblings in
    record { image = _; holds = d.holds; ready = (_, down_sharable s.1.siblings c.args.at.kind d.left d.right s.1) })

pub returns : goal.returns
returns c X h v s =
    let d = c.push_siblings-s.ensures X h v s.siblings in
    subst (Encodes _ _) (shared_is s.siblings c.args.at.kind d.left d.right c.args.k)
    (c.share.ensures _ d.holds v (down_sharable s.siblings c.args.at.kind d.left d.right s))
