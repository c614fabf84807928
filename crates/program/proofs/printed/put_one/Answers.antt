-- `program::printed::put_one` meets its contract. Assumes nothing.
use Rattle.calls.specs.Program.{run_text}
use Rattle.print.proofs.Laws.Puts.{prints_as}
use Rattle.program.proofs.printed.put_one.Goals as goal

pub returns : goal.returns
returns c = prints_as (λ j. run_text (c.run_at-run.ensures j) (c.end_of.ensures j)) c.put_run.ensures
