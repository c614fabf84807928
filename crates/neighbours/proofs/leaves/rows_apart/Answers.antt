-- `neighbours::leaves::rows_apart` meets its contract: each entry but the last stands in one of the rows. Assumes nothing.
use Rattle.std.proofs.Common.{sym, ◌∙◌, arith}
use mathlib.Core.Bool.{false≢true}
use Rattle.neighbours.specs.Edges.{next_differs}
use Rattle.neighbours.proofs.Laws.{from_first, rows_all}
use Rattle.neighbours.proofs.leaves.rows_apart.Goals as goal
use Rattle.neighbours.proofs.leaves.rows_apart.Goals.{then-sums_apart, else-sums_apart}

pub returns-then-sums_apart-2 : goal.returns-then-sums_apart-2
returns-then-sums_apart-2 c passed =
    elim c.if-sums_apart.branch [
      | then-sums_apart w ↦
          rows_all c.args.half c.args.n (λ i. next_differs c.args.half c.args.s.now i) (omega arith)
          (sym (from_first _ _) ∙ c.sums_apart.ensures w.if-sums_apart.true)
          (w.sums_apart-then-sums_apart.ensures (sym w.value-is ∙ c.if-sums_apart-2.true))
          (c.sums_apart-then-sums_apart-2.ensures passed)
      | else-sums_apart w ↦ absurd (false≢true (sym (w.value-is ∙ w.if-sums_apart.false) ∙ c.if-sums_apart-2.true))
    ]
