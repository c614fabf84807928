-- The loop's invariant: the first i runs are printed. Assumes nothing.
use Rattle.program.proofs.Laws.Runs.{Printing}
use Rattle.program.proofs.printed.put_runs.Given as goal

abbrev pub invariant-loop-i : goal.invariant-loop-i
invariant-loop-i l = Printing l.initial.printer l.list l.n l.i l.printer
