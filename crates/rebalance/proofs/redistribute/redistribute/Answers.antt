-- `rebalance::redistribute::redistribute` meets its contract: the right page's first start goes into the page above, and both pairs are
-- set to (0, 0). Assumes nothing.
use Rattle.std.proofs.Common.{[], ◌∷◌, subst, arith}
use Rattle.store.specs.Encoding.{Encodes}
use Rattle.store.proofs.Encoding.{from}
use Rattle.rebalance.proofs.Outcomes.{next_fits, shared_parent, right_there, left_there, first_of_right}
use Rattle.rebalance.proofs.Outcomes.{redistribute_is}
use Rattle.rebalance.proofs.redistribute.redistribute.Goals as goal

pub overflow_add-at : goal.overflow_add-at
overflow_add-at c = from c.requires (λ X h s. omega (arith, next_fits s.1.siblings h))

-- the page above, once both pages are shared, of every image that the bytes encode
pub entry_of-b-requires : goal.entry_of-b-requires
entry_of-b-requires c =
    from c.requires
    (λ X h s.
    let t = s.1.siblings in
    let above = shared_parent t c.args.at.kind c.args.k in
    record { image = _; holds = c.share_siblings.ensures X h _ s.1; ready = (_, right_there t above) })

pub entry_of-first-requires : goal.entry_of-first-requires
entry_of-first-requires c =
    from c.requires
    (λ X h s.
    let t = s.1.siblings in
    let holds = c.share_siblings.ensures X h _ s.1 in
    let above = shared_parent t c.args.at.kind c.args.k in
    let right = c.entry_of-b.ensures _ holds _ (right_there t above) in
    record { image = _; holds = holds; ready = (_, first_of_right t c.args.at.kind c.args.k right s.1.some) })

pub overflow_add-at-2 : goal.overflow_add-at-2
overflow_add-at-2 c = from c.requires (λ X h s. omega (arith, next_fits s.1.siblings h))

pub set_entry-requires : goal.set_entry-requires
set_entry-requires c =
    from c.requires
    (λ X h s.
    let t = s.1.siblings in
    let above = shared_parent t c.args.at.kind c.args.k in
    record { image = _; holds = c.share_siblings.ensures X h _ s.1; ready = (_, right_there t above) })

pub empty_pair-requires : goal.empty_pair-requires
empty_pair-requires c =
    from c.requires
    (λ X h s.
    let t = s.1.siblings in
    let above = shared_parent t c.args.at.kind c.args.k in
    record {
      image = _;
      holds = c.set_entry.ensures _ (c.share_siblings.ensures X h _ s.1) _ (right_there t above);
      ready = (_, left_there t above (c.emptied.result ∷ []));
    })

pub returns : goal.returns
returns c X h v s =
    let t = s.siblings in
    let kind = c.args.at.kind in
    let k = c.args.k in
    let holds = c.share_siblings.ensures X h v s in
    let above = shared_parent t kind k in
    let next = right_there t above in
    let right = c.entry_of-b.ensures _ holds _ next in
    let first = c.entry_of-first.ensures _ holds v (first_of_right t kind k right s.some) in
    subst (Encodes _ _) (redistribute_is t kind k right first c.emptied.ensures)
    (c.empty_pair.ensures _ (c.set_entry.ensures _ holds _ next) _ (left_there t above (c.emptied.result ∷ [])))
