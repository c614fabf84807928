-- `neighbours::parts::under_pair` meets its contract. Assumes nothing.
use Rattle.std.proofs.Common.{ap₂}
use Rattle.rule.specs.declared.Pair.{Pair}
use Rattle.neighbours.specs.Edges.{under_pair}
use Rattle.neighbours.proofs.parts.under_pair.Goals as goal

pub returns : goal.returns
unfolding under_pair
returns c =
    ap₂ (λ (p q : Pair). record { apart = c.args.e.apart; first = p; last = q }) c.combine.ensures c.combine-2.ensures
