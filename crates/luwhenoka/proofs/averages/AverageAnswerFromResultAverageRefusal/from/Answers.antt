-- The numbers of an average or of a refusal. Assumes nothing.
use Rattle.std.proofs.Common.{sym, ap, ◌∙◌}
use Rattle.luwhenoka.specs.Answers.{average_of, average_answer, averaged_answer}
use Rattle.luwhenoka.proofs.averages.AverageAnswerFromResultAverageRefusal.from.Goals as goal

pub returns-in-Ok : goal.returns-in-Ok
unfolding averaged_answer
returns-in-Ok c = c.into.ensures ∙ ap (λ a. averaged_answer (average_of a)) (sym c.in-Ok.is)

pub returns-in-Err : goal.returns-in-Err
unfolding averaged_answer average_answer
returns-in-Err c =
    let e = c.default.ensures in
    rw (c.into-in-Err.ensures, e.1.0, e.1.1) (ap (λ a. averaged_answer (average_of a)) (sym c.in-Err.is))
