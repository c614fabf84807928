-- `rebalance::merge::join_siblings` meets its contract: both pages take their pairs, the left one the other's entries. Assumes nothing.
use Rattle.std.proofs.Common.{subst}
use Rattle.store.specs.Encoding.{Encodes}
use Rattle.store.proofs.Encoding.{from}
use Rattle.rebalance.proofs.Outcomes.{down_appendable, down_givable, joined_is}
use Rattle.rebalance.proofs.merge.join_siblings.Goals as goal

pub append_all-requires : goal.append_all-requires
append_all-requires c =
    from c.requires
    (λ X h s.
    let d = c.push_siblings-s.ensures X h _ s.1.siblings in
    record { image = _; holds = d.holds; ready = (_, down_appendable s.1.siblings c.args.at.kind d.left d.right s.1.few) })

pub give_back-requires : goal.give_back-requires
give_back-requires c =
    from c.requires
    (λ X h s.
    let d = c.push_siblings-s.ensures X h _ s.1.siblings in
    record {
      image = _;
      holds = c.append_all.ensures _ d.holds _ (down_appendable s.1.siblings c.args.at.kind d.left d.right s.1.few);
      ready = down_givable s.1.siblings c.args.at.kind d.left d.right _ s.1.room;
    })

pub returns : goal.returns
returns c X h v s =
    let kind = c.args.at.kind in
    let d = c.push_siblings-s.ensures X h v s.siblings in
    subst (Encodes _ _) (joined_is s.siblings kind d.left d.right)
    (c.give_back.ensures _ (c.append_all.ensures _ d.holds v (down_appendable s.siblings kind d.left d.right s.few))
    (down_givable s.siblings kind d.left d.right _ s.room))
