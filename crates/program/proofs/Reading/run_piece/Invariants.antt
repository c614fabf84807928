-- The loop's invariant: the first bytes of the piece are run. Assumes nothing.
use Rattle.program.proofs.Laws.Pieces.{Come}
use Rattle.program.proofs.Reading.run_piece.Given as goal

abbrev pub invariant-loop-b : goal.invariant-loop-b
invariant-loop-b l = Come l.piece l.initial.self l.initial.img l.initial.out l.b-index l.self l.img l.out
