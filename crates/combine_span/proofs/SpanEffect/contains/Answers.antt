-- `contains` meets its contract: it is the definition. Assumes nothing.
use Rattle.std.proofs.Common.{refl}
use Rattle.steps.specs.Combine.{inside}
use Rattle.combine_span.proofs.SpanEffect.contains.Goals as goal

pub returns : goal.returns
unfolding inside
returns c = refl
