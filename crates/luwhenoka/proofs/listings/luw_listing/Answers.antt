-- `luwhenoka::listings::luw_listing` meets its contract: the same as numbers. Assumes nothing.
use Rattle.std.proofs.Common.{ap, ◌∙◌}
use Rattle.luwhenoka.specs.declared.ListingAnswer.{ListingAnswer}
use Rattle.luwhenoka.specs.Answers.{listing_answer}
use Rattle.luwhenoka.proofs.listings.luw_listing.Goals as goal

pub returns : goal.returns
unfolding listing_answer
returns c =
    ap (λ (r : ListingAnswer). record { status = r.status; runs = r.runs; output = c.index_listing.new.out }) c.into.ensures
    ∙ c.index_listing.ensures
