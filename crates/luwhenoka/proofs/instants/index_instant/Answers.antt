-- `luwhenoka::instants::index_instant` meets its contract: by half the capacity that the image names. Assumes nothing.
use Rattle.std.proofs.Common.{ap, ◌∙◌}
use Rattle.calls.specs.Calls.{instant}
use Rattle.calls.specs.Index.{index_instant}
use Rattle.luwhenoka.specs.Answers.{instant_of}
use Rattle.calls.proofs.Numbers.{refused_not_accepted}
use Rattle.luwhenoka.proofs.Laws.Judged.{half_ranged, by_half, by_refusal, handed_on_is}
use Rattle.luwhenoka.proofs.instants.index_instant.Goals as goal

pub returns-in_err-judge : goal.returns-in_err-judge
unfolding index_instant
returns-in_err-judge c =
    let refusal = c.in_err-judge.field-0.0 in
    ap instant_of (handed_on_is c.from_residual.result refusal c.from_residual.ensures)
    ∙ by_refusal c.args.img.now c.in_err-judge.ensures.status (refused_not_accepted refusal) _
    (λ half. instant half c.args.t c.args.img.now)

pub instant-requires : goal.instant-requires
instant-requires c = half_ranged c.args.img.now c.in_ok-judge.ensures.status c.in_ok-judge.ensures.named

pub returns : goal.returns
unfolding index_instant
returns c =
    c.instant.ensures
    ∙ by_half c.args.img.now c.in_ok-judge.ensures.status c.in_ok-judge.ensures.named _ (λ half. instant half c.args.t c.args.img.now)
