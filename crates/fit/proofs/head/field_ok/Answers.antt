-- `fit::head::field_ok` meets its contract: the capacity of a half in range needs no test of its own. Assumes nothing.
use Rattle.std.proofs.Common.{eqb, ◌∙◌}
use Rattle.page.proofs.Laws.Capacities.{field_by_half}
use Rattle.fit.proofs.head.field_ok.Goals as goal

pub returns : goal.returns
returns c =
    (λ j. eqb (c.capacity_named.ensures j) (c.capacity.ensures j)) ∙ field_by_half _ c.args.field c.requires.0 c.requires.1
