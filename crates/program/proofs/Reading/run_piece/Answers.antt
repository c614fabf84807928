-- `program::Reading::run_piece` meets its contract: byte by byte. Assumes nothing.
use Rattle.program.proofs.Laws.Pieces.{come_none, come_more, come_all, come_within}
use Rattle.program.proofs.Reading.run_piece.Goals as goal

pub loop-b-init : goal.loop-b-init
loop-b-init c = come_none _ _ _ _

pub loop-b-preserved : goal.loop-b-preserved
loop-b-preserved c =
    let ran = c.run_byte in
    come_more c.loop-b.invariant c.loop-b-test.true ran.ensures.simulates_step ran.ensures.advances ran.auto.out ran.auto.img

pub returns : goal.returns
returns c = record { simulates_step = come_all c.loop-b.invariant c.loop-b-test.false; advances = come_within c.loop-b.invariant c.loop-b-test.false }
