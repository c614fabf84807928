-- `neighbours::parts::joined` meets its contract: the pairs where they meet are compared as the definition compares them. Assumes nothing.
use Rattle.std.proofs.Common.{not, ◌&&◌, ap, ◌∙◌}
use mathlib.Core.Bool.{Bool, and_assoc}
use Rattle.rule.specs.Pairs.{same_pair}
use Rattle.rule.proofs.Laws.{pairs_equal}
use Rattle.neighbours.specs.Edges.{joined}
use Rattle.neighbours.proofs.parts.joined.Goals as goal

pub returns : goal.returns
unfolding joined
returns c =
    let a = c.args.a in
    let b = c.args.b in
    ap (λ (t : Bool). record { apart = t; first = a.first; last = b.last })
    (ap (λ t. (a.apart && t) && b.apart) (c.ne.ensures ∙ ap not (pairs_equal a.last b.first))
    ∙ and_assoc a.apart (not (same_pair a.last b.first)) b.apart)
