-- `set_root` meets its contract: the head that was read, with another root. Assumes nothing.
use Rattle.std.proofs.Common.{refl}
use Rattle.steps.specs.Supply.{with_root}
use Rattle.store.specs.Encoding.{Encodes}
use Rattle.store.proofs.Encoding.{holds_numbers}
use Rattle.store.proofs.Supplying.{by_head}
use Rattle.store.proofs.root.set_root.Goals as goal

pub set_head-requires : goal.set_head-requires
set_head-requires c = holds_numbers c.requires.holds

pub returns : goal.returns
unfolding with_root
returns c X h any =
    let args = c.args in
    by_head (λ Y. Encodes args.half args.img.now Y → Encodes args.half c.set_head.new.img (with_root args.height args.p Y))
    (c.head_of-h.ensures X h tt)
    (λ k. c.set_head.ensures _ _ k (record { pages = refl })) h
