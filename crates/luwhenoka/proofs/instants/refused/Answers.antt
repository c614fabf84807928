-- `luwhenoka::instants::refused` meets its contract: every other number is 0. Assumes nothing.
use Rattle.std.proofs.Common.{refl}
use Rattle.luwhenoka.specs.Answers.{instant_answer}
use Rattle.luwhenoka.proofs.instants.refused.Goals as goal

pub returns : goal.returns
unfolding instant_answer
returns c = let e = c.default.ensures in rw (c.into.ensures, e.1.1.0, e.1.1.1.0, e.1.1.1.1.0, e.1.1.1.1.1) refl
