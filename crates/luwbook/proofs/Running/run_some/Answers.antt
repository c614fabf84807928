-- `luwbook::Running::run_some` meets its contract. Assumes nothing.
use Rattle.std.proofs.Common.{arith}
use Rattle.luwbook.specs.Reached.{by_piece}
use Rattle.luwbook.proofs.Laws.{put_none, writable, shown, stood, ran_written, ran_failed}
use Rattle.luwbook.proofs.Running.run_some.Goals as goal

pub returns-then-self-gt-LAST_LINE : goal.returns-then-self-gt-LAST_LINE
returns-then-self-gt-LAST_LINE c = ran_failed (λ l. omega arith)

pub write_out-requires : goal.write_out-requires
write_out-requires c =
    let was = c.requires.standing in
    writable (shown c.flush.ensures.flushes c.run_piece.ensures.simulates_step was.stands).printed (by_piece was.reached _)

pub returns : goal.returns
returns c =
    let turned = c.flush.ensures.flushes in
    let went = c.run_piece.ensures.simulates_step in
    ran_written (λ g s. stood turned went s) (λ g s e. c.write_out.ensures (put_none (shown turned went s).printed e))
