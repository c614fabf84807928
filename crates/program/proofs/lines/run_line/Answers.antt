-- `program::lines::run_line` meets its contract, case by case. Assumes nothing.
use Rattle.std.proofs.Common.{sym, ap}
use Rattle.text.specs.Reading.{line_of}
use Rattle.program.proofs.Laws.Lines.{does_line, does_unread}
use Rattle.program.proofs.lines.run_line.Goals as goal

pub returns-in-Some : goal.returns-in-Some
returns-in-Some c = does_line _ _ (ap line_of (sym c.in-Some.is)) c.run_booking.ensures

pub returns-in-None : goal.returns-in-None
unfolding line_of
returns-in-None c = does_line _ _ (ap line_of (sym c.in-None.is)) (does_unread _ c.put_unread.ensures)
