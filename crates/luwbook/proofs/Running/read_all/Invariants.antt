-- The program is where it can be.
use Rattle.luwbook.specs.Reached.{Standing}
use Rattle.luwbook.proofs.Running.read_all.Given as goal

abbrev pub invariant-loop-turn : goal.invariant-loop-turn
invariant-loop-turn l = Standing l.self.reading l.self.img.now
