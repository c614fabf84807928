-- `promises::listing` meets its contract: `luw_listing` promises the answer, and an image that is lent for reading is kept. Assumes
-- nothing.
use Rattle.std.proofs.Common.{rules}
use Rattle.claims.specs.Trace.{kept}
use Rattle.luwhenoka.specs.Answers.{listing_answer}
use Rattle.promises.proofs.AfterLists.{listing_as}
use Rattle.promises.proofs.listing.Goals as goal

pub returns : goal.returns
unfolding listing_answer
returns c = record { as_defined = search rules; step = kept; after_lists = listing_as _ _ _ _ _ _ (search rules) }
