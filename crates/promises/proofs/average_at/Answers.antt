-- `promises::average_at` meets its contract: `luw_average` promises the answer, and an image that is lent for reading is kept. Assumes
-- nothing.
use Rattle.std.proofs.Common.{rules}
use Rattle.claims.specs.Trace.{kept}
use Rattle.luwhenoka.specs.Answers.{averaged_answer}
use Rattle.promises.proofs.AfterLists.{average_as}
use Rattle.promises.proofs.average_at.Goals as goal

pub returns : goal.returns
unfolding averaged_answer
returns c = record { as_defined = search rules; step = kept; after_lists = average_as _ _ _ (search rules) }
