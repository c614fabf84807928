-- `rebalance::merge::merge` meets its contract: the page above loses the right entry, and the left one its pair. Assumes nothing.
use Rattle.std.proofs.Common.{[], subst, arith}
use Rattle.store.specs.Encoding.{Encodes}
use Rattle.store.proofs.Encoding.{from}
use Rattle.rebalance.proofs.Outcomes.{next_fits, merged_parent, right_there, left_there, merge_is}
use Rattle.rebalance.proofs.merge.merge.Goals as goal

pub overflow_add-at : goal.overflow_add-at
overflow_add-at c = from c.requires (λ X h s. omega (arith, next_fits s.1.siblings h))

pub remove_entry-requires : goal.remove_entry-requires
remove_entry-requires c =
    from c.requires
    (λ X h s.
    let t = s.1.siblings in
    record { image = _; holds = c.join_siblings.ensures X h _ s.1; ready = (_, right_there t (merged_parent t c.args.at.kind)) })

pub empty_pair-requires : goal.empty_pair-requires
empty_pair-requires c =
    from c.requires
    (λ X h s.
    let t = s.1.siblings in
    let k = merged_parent t c.args.at.kind in
    record {
      image = _;
      holds = c.remove_entry.ensures _ (c.join_siblings.ensures X h _ s.1) _ (right_there t k);
      ready = (_, left_there t k []);
    })

pub returns : goal.returns
returns c X h v s =
    let kind = c.args.at.kind in
    let t = s.siblings in
    let k = merged_parent t kind in
    subst (Encodes _ _) (merge_is t kind)
    (c.empty_pair.ensures _ (c.remove_entry.ensures _ (c.join_siblings.ensures X h v s) _ (right_there t k)) _
    (left_there t k []))
