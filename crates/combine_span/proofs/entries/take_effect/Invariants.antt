-- The loop's invariant: the entries passed have taken the effect.
use Rattle.combine_span.proofs.Taken as turns
use Rattle.combine_span.proofs.entries.take_effect.Given as goal

abbrev pub invariant-loop-i : goal.invariant-loop-i
invariant-loop-i l = turns.Taking l.q l.hi l.p l.half l.initial.img l.i-end l.i l.img
