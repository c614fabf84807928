-- The numbers of an average, case by case. Assumes nothing.
use Rattle.std.proofs.Common.{rules, sym, ap, ◌∙◌, w64, SFits, to_z-of_z}
use Rattle.luwhenoka.specs.Answers.{average_answer}
use Rattle.luwhenoka.proofs.averages.AverageAnswerFromAverage.from.Goals as goal

pub returns-in-Nothing : goal.returns-in-Nothing
unfolding average_answer
returns-in-Nothing c =
    let e = c.default.ensures in
    (λ j. record { status = e.0 j; answer = e.1.0 j; hundredths = e.1.1 j }) ∙ ap (average_answer 0) (sym c.in-Nothing.is)

pub returns-in-Hundredths : goal.returns-in-Hundredths
unfolding average_answer
returns-in-Hundredths c =
    let width : SFits w64 c.in-Hundredths.hundredths = search rules in
    rw (to_z-of_z width, c.default-in-Hundredths.ensures.0) (ap (average_answer 0) (sym c.in-Hundredths.is))

pub returns-in-Beyond : goal.returns-in-Beyond
unfolding average_answer
returns-in-Beyond c =
    let e = c.default-in-Beyond.ensures in
    rw (e.0, e.1.1) (ap (average_answer 0) (sym c.in-Beyond.is))
