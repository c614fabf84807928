-- `fit::contexts::root_context` meets its contract: it is the definition. Assumes nothing.
use Rattle.std.proofs.Common.{refl}
use Rattle.page.specs.Fit.{root_context}
use Rattle.fit.proofs.contexts.root_context.Goals as goal

pub returns : goal.returns
unfolding root_context
returns c = refl
