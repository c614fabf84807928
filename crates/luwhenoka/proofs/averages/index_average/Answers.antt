-- `luwhenoka::averages::index_average` meets its contract: answered or refused as the instant call is. Assumes nothing.
use Rattle.std.proofs.Common.{sym, ap, ◌∙◌, refl, arith}
use Rattle.rule.specs.Averages.{average}
use Rattle.luwhenoka.specs.Answers.{looked, average_of}
use Rattle.calls.proofs.Numbers.{refused_not_accepted}
use Rattle.luwhenoka.proofs.Laws.Judged.{handed_on_is, handed_on_none}
use Rattle.luwhenoka.proofs.Laws.Averages.{average_long, average_0, average_refused}
use Rattle.luwhenoka.proofs.averages.index_average.Goals as goal

pub returns-in_err-index_instant : goal.returns-in_err-index_instant
returns-in_err-index_instant c =
    let refusal = c.in_err-index_instant.field-0.0 in
    ap average_of (handed_on_is c.from_residual.result refusal c.from_residual.ensures)
    ∙ average_refused c.args.t c.args.img.now c.in_err-index_instant.ensures (refused_not_accepted refusal)

pub returns-in_err-found : goal.returns-in_err-found
returns-in_err-found c =
    let pages = c.in_ok-index_instant.field-0.pages in
    let nothing = c.in_err-found.ensures.ok_part in
    ap average_of (handed_on_none _ _ _ _ c.from_residual-in_err-found.ensures c.in_err-found.ensures.value nothing)
    ∙ average_refused c.args.t c.args.img.now (ap (λ o. looked o pages) (sym nothing) ∙ c.in_ok-index_instant.ensures)
    (λ e. absurd (omega arith))

pub kind_of-requires : goal.kind_of-requires
kind_of-requires c =
    let pages = c.in_ok-index_instant.field-0.pages in
    average_long c.args.t c.args.img.now (ap (λ o. looked o pages) (sym c.in_ok-found.ensures.ok_part) ∙ c.in_ok-index_instant.ensures) refl

pub returns : goal.returns
returns c =
    let pages = c.in_ok-index_instant.field-0.pages in
    let e = average_0 c.args.t c.args.img.now (ap (λ o. looked o pages) (sym c.in_ok-found.ensures.ok_part) ∙ c.in_ok-index_instant.ensures) refl in
    (λ j. record { status = 0; average = (c.average.ensures ∙ ap (λ k. average k c.in_ok-found.found.pair) c.kind_of.ensures) j }) ∙ e
