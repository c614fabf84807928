-- `program::lines::run_booking` meets its contract: a law for each way out. Assumes nothing.
use Rattle.std.proofs.Common.{arith, refl}
use Rattle.calls.proofs.Numbers.{refused_not_accepted}
use Rattle.text.specs.Reading.{line_of}
use Rattle.program.proofs.Laws.Lines.{does_accepted, does_refused}
use Rattle.program.proofs.lines.run_booking.Goals as goal

pub returns-in-Err : goal.returns-in-Err
unfolding line_of
returns-in-Err c =
    does_refused _ _ _ _ _ _ c.in-Err.ensures (refused_not_accepted c.in-Err.refusal) (rw c.into.ensures at c.put_refused.ensures)

pub returns-in_default : goal.returns-in_default
unfolding line_of
returns-in_default c = does_accepted _ _ _ _ _ _ c.in_default.ensures refl _ (omega (arith, c.requires))
