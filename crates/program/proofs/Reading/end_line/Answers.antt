-- `program::Reading::end_line` meets its contract: the printer has kept its buffer. Assumes nothing.
use Rattle.std.proofs.Common.{refl, sym, rules}
use Rattle.program.proofs.Laws.Pieces.{goes_line}
use Rattle.program.proofs.Reading.end_line.Goals as goal

pub returns-clause-simulates_step : goal.returns-clause-simulates_step
returns-clause-simulates_step c =
    let same = sym c.run_line.ensures.printed.same_buffer in
    goes_line refl (λ text h. c.parse.ensures text h.same) c.new-self.ensures c.run_line.ensures (search rules)
