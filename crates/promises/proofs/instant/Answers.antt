-- `promises::instant` meets its contract: `luw_instant` promises the answer, and an image that is lent for reading is kept. Assumes
-- nothing.
use Rattle.std.proofs.Common.{ap}
use Rattle.calls.specs.Calls.{Instant}
use Rattle.claims.specs.Trace.{kept}
use Rattle.luwhenoka.specs.declared.InstantAnswer.{InstantAnswer}
use Rattle.luwhenoka.specs.Answers.{instant_answer, pair_of}
use Rattle.promises.proofs.AfterLists.{instant_as}
use Rattle.promises.proofs.instant.Goals as goal

pub returns : goal.returns
unfolding instant_answer
returns c =
    let p =
    ap {B = Instant}
    (λ (r : InstantAnswer). record { status = r.status; pair = pair_of r; start = r.start; end = r.end; pages = r.pages })
    c.luw_instant.ensures in
    record { as_defined = p; step = kept; after_lists = instant_as _ _ _ p }
