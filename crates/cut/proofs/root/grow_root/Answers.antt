-- `grow_root` meets its contract: the page that is taken is the root, and is written last. Assumes nothing.
use Rattle.std.proofs.Common.{[], ◌∷◌, arith}
use Rattle.rule.specs.Pairs.{none}
use Rattle.page.specs.Entries.{entry}
use Rattle.steps.specs.Cut.{grow_root}
use Rattle.edit.proofs.Edits.{has_len}
use Rattle.store.specs.Encoding.{Encodes}
use Rattle.store.proofs.Encoding.{from}
use Rattle.store.proofs.Supplying.{by_head, some_headed, within_rooted}
use Rattle.cut.specs.Cuttable.{RootGrowable}
use Rattle.cut.proofs.Splitting.{spare_within}
use Rattle.cut.proofs.Roots.{grow_root_holds}
use Rattle.cut.proofs.root.grow_root.Goals as goal

-- the page that was taken, once the head leads to it
pub save-requires-clause-in_image : goal.save-requires-clause-in_image
save-requires-clause-in_image c =
    from c.requires
    (λ X h r.
    let q = c.take-p.ensures X h r.takable in
    record { image = _; holds = c.set_root.ensures _ q.1 tt; ready = within_rooted (spare_within q.0 r.takable) _ _ })

pub save-requires-clause-writable : goal.save-requires-clause-writable
save-requires-clause-writable c =
    let k = some_headed c.requires c.head_of-h.ensures in
    (omega (arith, c.new_root.ensures.level, k.ready.low), omega (arith, has_len c.new_root.ensures, k.holds.half_least))

pub returns : goal.returns
returns c X h r =
    let args = c.args in
    let es = entry 0 none args.root ∷ entry args.right.start none args.right.page ∷ [] in
    by_head (λ Y. Encodes args.half args.img.now Y → RootGrowable Y → Encodes args.half c.save.new.img (grow_root es Y))
    (c.head_of-h.ensures X h tt)
    (λ k ready.
    let q = c.take-p.ensures _ k ready.takable in
    grow_root_holds _ _ q.0 c.new_root.ensures
    (c.save.ensures _ (c.set_root.ensures _ q.1 tt) (within_rooted (spare_within q.0 ready.takable) _ _)))
    h r
