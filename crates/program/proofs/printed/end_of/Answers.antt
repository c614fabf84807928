-- `program::printed::end_of` meets its contract. Assumes nothing.
use Rattle.std.proofs.Common.{ap, ◌∙◌, arith}
use Rattle.image.specs.Listing.{Run}
use Rattle.program.proofs.Laws.Runs.{end_last, end_next}
use Rattle.program.proofs.printed.end_of.Goals as goal

pub returns-then-next-n : goal.returns-then-next-n
returns-then-next-n c = end_last _ _ _ c.if-next-n.true

pub returns : goal.returns
returns c = ap (λ (r : Run). r.start) c.run_at.ensures ∙ end_next _ _ _ (omega (arith, c.if-next-n.false))
