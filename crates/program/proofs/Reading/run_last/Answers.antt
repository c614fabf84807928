-- `program::Reading::run_last` meets its contract. Assumes nothing.
use Rattle.std.proofs.Common.{sym, ◌∙◌}
use Rattle.program.proofs.Laws.Pieces.{goes_empty, goes_last}
use Rattle.program.proofs.Reading.run_last.Goals as goal

pub returns-then-len-eq0-clause-simulates_step : goal.returns-then-len-eq0-clause-simulates_step
returns-then-len-eq0-clause-simulates_step c = goes_empty (sym c.len.ensures ∙ c.if-len-eq0.true)

pub returns-clause-simulates_step : goal.returns-clause-simulates_step
returns-clause-simulates_step c = goes_last (λ e. c.if-len-eq0.false (c.len.ensures ∙ e)) c.end_line.ensures.simulates_step
