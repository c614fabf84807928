-- `neighbours::leaves::clearly_apart` meets its contract. Assumes nothing.
use Rattle.std.proofs.Common.{ℕ, ◌-◌, ap, ◌∙◌}
use Rattle.fields.specs.Bytes.{every}
use Rattle.neighbours.specs.Edges.{next_differs}
use Rattle.neighbours.proofs.leaves.clearly_apart.Goals as goal

pub returns-then-half-eq-MOST_HALF : goal.returns-then-half-eq-MOST_HALF
returns-then-half-eq-MOST_HALF c passed =
    ap (λ (k : ℕ). every (c.args.n - 1) (λ i. next_differs k c.args.s.now i)) c.if-half-eq-MOST_HALF.true ∙ c.rows_apart.ensures passed
