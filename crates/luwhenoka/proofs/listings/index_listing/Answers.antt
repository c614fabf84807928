-- `luwhenoka::listings::index_listing` meets its contract: by half the capacity that the image names. Assumes nothing.
use Rattle.std.proofs.Common.{ap, ◌∙◌}
use Rattle.calls.specs.Calls.{listing}
use Rattle.calls.specs.Index.{index_listing}
use Rattle.calls.proofs.Numbers.{refused_not_accepted}
use Rattle.luwhenoka.specs.Answers.{listed_of}
use Rattle.luwhenoka.proofs.Laws.Judged.{half_ranged, by_half, by_refusal, handed_on_is}
use Rattle.luwhenoka.proofs.listings.index_listing.Goals as goal

pub returns-in_err-judge : goal.returns-in_err-judge
unfolding index_listing
returns-in_err-judge c =
    let refusal = c.in_err-judge.field-0.0 in
    ap (λ r. listed_of r c.args.out.now) (handed_on_is c.from_residual.result refusal c.from_residual.ensures)
    ∙ by_refusal c.args.img.now c.in_err-judge.ensures.status (refused_not_accepted refusal) _
    (λ half. listing half c.args.a c.args.b c.args.img.now c.args.out.now)

pub list_runs-requires : goal.list_runs-requires
list_runs-requires c = half_ranged c.args.img.now c.in_ok-judge.ensures.status c.in_ok-judge.ensures.named

pub returns : goal.returns
unfolding index_listing
returns c =
    c.list_runs.ensures
    ∙ by_half c.args.img.now c.in_ok-judge.ensures.status c.in_ok-judge.ensures.named _
    (λ half. listing half c.args.a c.args.b c.args.img.now c.args.out.now)
