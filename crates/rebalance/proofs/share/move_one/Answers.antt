-- `rebalance::share::move_one` meets its contract: page b is read and loses its first entry, or page a its last. Assumes nothing.
use Rattle.rebalance.proofs.Sharing.{first_there, last_fits, first_goes, went_left, last_there, first_fits, went_right}
use Rattle.rebalance.proofs.Sharing.{then_other, both_edited}
use Rattle.rebalance.proofs.share.move_one.Goals as goal

-- ---- to the left

pub remove_entry-requires : goal.remove_entry-requires
remove_entry-requires c =
    let less = c.if-m-k.true in
    then_other c.entry_of-e.ensures c.insert_entry.ensures (λ v X s. first_there s less) (λ v X s. last_fits s less)
    (λ v X s. first_goes s less) c.requires

pub returns-then-m-k-clause-shared : goal.returns-then-m-k-clause-shared
returns-then-m-k-clause-shared c =
    let less = c.if-m-k.true in
    both_edited c.entry_of-e.ensures c.insert_entry.ensures (λ v X s. first_there s less) (λ v X s. last_fits s less)
    (λ v X s. first_goes s less) (λ v X s. went_left s less) c.remove_entry.ensures

-- ---- to the right

pub insert_entry-requires-else-m-k : goal.insert_entry-requires-else-m-k
insert_entry-requires-else-m-k c =
    let some = c.if-m-k.false in
    then_other c.entry_of-e-else-m-k.ensures c.remove_entry-else-m-k.ensures (λ v X s. last_there s some) (λ v X s. last_there s some)
    (λ v X s. first_fits s some) c.requires

pub returns-else-m-k-clause-shared : goal.returns-else-m-k-clause-shared
returns-else-m-k-clause-shared c =
    let some = c.if-m-k.false in
    both_edited c.entry_of-e-else-m-k.ensures c.remove_entry-else-m-k.ensures (λ v X s. last_there s some) (λ v X s. last_there s some)
    (λ v X s. first_fits s some) (λ v X s. went_right s some) c.insert_entry-else-m-k.ensures
