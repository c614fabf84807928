-- `give_back` meets its contract: the head that was read leads to the page, and the page to the one that was first. Assumes nothing.
use Rattle.std.proofs.Common.{refl}
use mathlib.Core.Path.{subst}
use Rattle.steps.specs.Supply.{with_supply, given_back}
use Rattle.store.specs.Encoding.{Encodes}
use Rattle.store.specs.Preconditions.{Givable}
use Rattle.store.proofs.Encoding.{holds_numbers}
use Rattle.store.proofs.Supplying.{by_head, given_back_is}
use Rattle.store.proofs.supply.give_back.Goals as goal

pub set_head-requires : goal.set_head-requires
set_head-requires c = holds_numbers c.requires.holds

pub returns : goal.returns
unfolding with_supply
returns c X h r =
    let args = c.args in
    by_head (λ Y. Encodes args.half args.img.now Y → Givable args.p Y
    → Encodes args.half c.set_free.new.img (given_back args.p Y))
    (c.head_of-h.ensures X h tt)
    (λ k g.
    subst (Encodes _ _) (given_back_is args.p _)
    (c.set_free.ensures _ (c.set_head.ensures _ _ k (record { pages = refl }))
    (record { least = g.within.least; below = g.within.below })))
    h r
