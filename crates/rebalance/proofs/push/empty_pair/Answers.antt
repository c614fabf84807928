-- `rebalance::push::empty_pair` meets its contract: the entry is read, and set without its pair. Assumes nothing.
use Rattle.std.proofs.Common.{[], ◌∷◌, ap, ◌∙◌, subst}
use Rattle.lists.specs.Lists.{splice}
use Rattle.image.specs.Images.{tree}
use Rattle.steps.specs.Supply.{entries, put}
use Rattle.store.specs.Encoding.{Encodes}
use Rattle.rebalance.specs.Siblings.{emptied}
use Rattle.rebalance.proofs.push.empty_pair.Goals as goal

pub returns : goal.returns
returns c X h v s =
    let e = c.emptied.ensures ∙ ap (λ x. emptied x.start x) (c.entry_of-e.ensures X h v s) in
    subst (Encodes _ _) (ap (λ x. put c.args.p (tree v (splice c.args.l (x ∷ []) (entries X c.args.p))) X) e)
    (c.set_entry.ensures X h v s)
