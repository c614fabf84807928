-- `luwhenoka::averages::luw_average_of` meets its contract. Assumes nothing.
use Rattle.std.proofs.Common.{ap, ◌∙◌, to_z-of_z}
use Rattle.luwhenoka.specs.Answers.{average_answer}
use Rattle.luwhenoka.proofs.averages.luw_average_of.Goals as goal

pub returns : goal.returns
returns c = c.into.ensures ∙ ap (average_answer 0) (rw (to_z-of_z c.ranges.sum, to_z-of_z c.ranges.count) at c.average.ensures)
