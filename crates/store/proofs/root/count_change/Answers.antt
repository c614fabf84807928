-- `count_change` meets its contract: the head that was read, with one change more. Assumes nothing.
use Rattle.std.proofs.Common.{refl, add-one, arith}
use Rattle.steps.specs.Supply.{count_change}
use Rattle.store.specs.Encoding.{Encodes}
use Rattle.store.proofs.Encoding.{holds_numbers}
use Rattle.store.proofs.Supplying.{by_head, some_headed}
use Rattle.store.proofs.root.count_change.Goals as goal

pub overflow_add-h : goal.overflow_add-h
overflow_add-h c = omega (arith, (some_headed c.requires c.head_of-h.ensures).ready.room)

pub set_head-requires : goal.set_head-requires
set_head-requires c = holds_numbers c.requires.holds

pub returns : goal.returns
unfolding count_change
returns c X h r =
    let args = c.args in
    by_head (λ Y. Encodes args.half args.img.now Y → Encodes args.half c.set_head.new.img (count_change Y))
    (c.head_of-h.ensures X h tt)
    (λ k. rw (← add-one c.head_of-h.result.changes) (c.set_head.ensures _ _ k (record { pages = refl }))) h
