-- `fit::contexts::context_below` meets its contract: by the numbers of the i-th entry. Assumes nothing.
use Rattle.std.proofs.Common.{◌∙◌}
use Rattle.page.specs.Fit.{context_under, context_below}
use Rattle.fit.proofs.contexts.context_below.Goals as goal

pub returns : goal.returns
unfolding context_below
returns c =
    c.context_under.ensures ∙ (λ j. context_under c.args.at (c.start_at.ensures j) (c.end_at.ensures j) (c.pair_at.ensures j))
