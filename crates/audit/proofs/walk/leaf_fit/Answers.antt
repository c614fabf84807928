-- `audit::walk::leaf_fit` meets its contract. Assumes nothing.
use Rattle.std.proofs.Common.{ap, ap₂, ◌∙◌, arith}
use Rattle.page.specs.Layout.{child_at}
use Rattle.page.specs.Fit.{context_below, page_fit}
use Rattle.image.specs.Images.{page_at}
use Rattle.audit.proofs.Walks.{standing_within, standing_size, standing_bounded, entry_reads, entered}
use Rattle.audit.proofs.walk.leaf_fit.Goals as goal

pub page_at-s-requires : goal.page_at-s-requires
page_at-s-requires c = standing_within c.requires.standing

pub context_below-below-requires-clause-size : goal.context_below-below-requires-clause-size
context_below-below-requires-clause-size c = standing_size c.requires.standing c.page_at-s.ensures

pub context_below-below-requires-clause-within : goal.context_below-below-requires-clause-within
context_below-below-requires-clause-within c = omega (arith, entry_reads c.requires.standing c.requires.inner c.page_at-s.ensures)

pub context_below-below-requires-clause-inner : goal.context_below-below-requires-clause-inner
context_below-below-requires-clause-inner c = (c.requires.inner.level, standing_bounded c.requires.standing)

pub child_at-requires : goal.child_at-requires
child_at-requires c =
    let w = c.requires in
    (standing_size w.standing c.page_at-s.ensures, omega (arith, entry_reads w.standing w.inner c.page_at-s.ensures))

-- the page below the entry, as the code has it
pub page_at-requires : goal.page_at-requires
page_at-requires c =
    standing_within (entered c.requires.standing c.requires.inner c.page_at-s.ensures c.context_below-below.ensures c.child_at.ensures).standing

pub page_fit-requires-clause-bytes : goal.page_fit-requires-clause-bytes
page_fit-requires-clause-bytes c =
    let b = entered c.requires.standing c.requires.inner c.page_at-s.ensures c.context_below-below.ensures c.child_at.ensures in
    (b.standing.half_least, standing_size b.standing c.page_at.ensures)

pub page_fit-requires-clause-bounded : goal.page_fit-requires-clause-bounded
page_fit-requires-clause-bounded c =
    standing_bounded (entered c.requires.standing c.requires.inner c.page_at-s.ensures c.context_below-below.ensures c.child_at.ensures).standing

pub returns : goal.returns
returns c =
    let args = c.args in
    let d = c.page_at-s.ensures in
    c.page_fit.ensures
    ∙ ap₂ (page_fit args.half args.h)
    (c.context_below-below.ensures ∙ ap (λ s. context_below args.half s args.at args.i) d)
    (c.page_at.ensures
    ∙ ap (page_at args.half args.img.now) (c.child_at.ensures ∙ ap (λ s. child_at args.half s args.i) d))
