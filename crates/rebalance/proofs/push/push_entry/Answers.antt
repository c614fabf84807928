-- `rebalance::push::push_entry` meets its contract: the entry is read, and set with both pairs in one. Assumes nothing.
use Rattle.std.proofs.Common.{[], ◌∷◌, ap, ◌∙◌, subst}
use Rattle.page.specs.Entries.{entry}
use Rattle.lists.specs.Lists.{splice}
use Rattle.image.specs.Images.{tree}
use Rattle.steps.specs.Supply.{entries, put}
use Rattle.store.specs.Encoding.{Encodes}
use Rattle.rebalance.specs.Siblings.{with_pair}
use Rattle.rebalance.proofs.push.push_entry.Goals as goal

pub returns : goal.returns
returns c X h v s =
    let q = c.args.q in
    let es = entries X q in
    let e = c.entry_of-e.result in
    subst (Encodes _ _)
    (ap (λ r. put q (tree v (splice c.args.i (entry e.start r e.child ∷ []) es)) X) c.combine-pair.ensures
    ∙ ap (λ e. put q (tree v (splice c.args.i (with_pair c.args.kind c.args.pair e ∷ []) es)) X) (c.entry_of-e.ensures X h v s.has))
    (c.set_entry.ensures X h v s.has)
