-- `luwhenoka::rebuilds::index_rebuild` meets its contract: by half the capacity that the image names. Assumes nothing.
use Rattle.std.proofs.Common.{◌∙◌}
use Rattle.calls.specs.Refusals.{borrowed}
use Rattle.calls.specs.Calls.{rebuild}
use Rattle.calls.specs.Index.{index_rebuild}
use Rattle.calls.proofs.Numbers.{refused_not_accepted, handed_on}
use Rattle.luwhenoka.proofs.Laws.Judged.{half_ranged, by_half, by_refusal}
use Rattle.luwhenoka.proofs.rebuilds.index_rebuild.Goals as goal

pub returns-in_err-judge : goal.returns-in_err-judge
unfolding index_rebuild
returns-in_err-judge c =
    let refusal = c.in_err-judge.field-0.0 in
    rw (handed_on c.from_residual.result refusal c.from_residual.ensures)
    (by_refusal c.args.source.now c.in_err-judge.ensures.status (refused_not_accepted refusal) _
    (λ half. rebuild borrowed half c.args.source.now c.args.target.now c.args.scratch.now))

pub rebuild-requires : goal.rebuild-requires
rebuild-requires c = half_ranged c.args.source.now c.in_ok-judge.ensures.status c.in_ok-judge.ensures.named

pub returns : goal.returns
unfolding index_rebuild
returns c =
    c.rebuild.ensures
    ∙ by_half c.args.source.now c.in_ok-judge.ensures.status c.in_ok-judge.ensures.named _
    (λ half. rebuild borrowed half c.args.source.now c.args.target.now c.args.scratch.now)
