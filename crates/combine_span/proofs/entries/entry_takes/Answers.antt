-- `entry_takes` meets its contract: the entry is inside the span, or not. Assumes nothing.
use Rattle.std.proofs.Common.{[], ◌∷◌, sym, ap, ◌∙◌}
use mathlib.Core.Path.{subst}
use Rattle.lists.specs.Lists.{splice}
use Rattle.image.specs.Images.{tree}
use Rattle.steps.specs.Supply.{entries, put}
use Rattle.store.specs.Encoding.{Encodes}
use Rattle.combine_span.specs.SpanCombinable.{took_by}
use Rattle.combine_span.proofs.Laws.{took_inside, took_outside}
use Rattle.combine_span.proofs.Taken.{untaken}
use Rattle.combine_span.proofs.entries.entry_takes.Goals as goal

pub returns-then-contains : goal.returns-then-contains
returns-then-contains c X h l k =
    let q = c.args.q in
    let e = c.entry_of-x.ensures X h l k.has in
    let d = c.entry_end-end.ensures X h l k.has in
    let es = entries X c.args.p in
    let in_span = sym c.contains.ensures ∙ c.if-contains.true in
    subst (Encodes _ _)
    (ap (λ y. put c.args.p (tree l (splice c.args.i (y ∷ []) es)) X)
    (c.with_effect.ensures ∙ took_inside q _ _ in_span ∙ λ j. took_by q (d j) (e j)))
    (c.set_entry.ensures X h l k.has)

pub returns-else-contains : goal.returns-else-contains
returns-else-contains c X h l k =
    let q = c.args.q in
    let e = c.entry_of-x.ensures X h l k.has in
    let d = c.entry_end-end.ensures X h l k.has in
    let out = sym c.contains.ensures ∙ c.if-contains.false in
    subst (Encodes _ _) (untaken _ _ _ _ l X k (sym e ∙ took_outside q _ _ out ∙ λ j. took_by q (d j) (e j))) h
