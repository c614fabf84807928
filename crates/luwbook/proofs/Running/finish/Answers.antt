-- `luwbook::Running::finish` meets its contract. Assumes nothing.
use Rattle.std.proofs.Common.{arith}
use Rattle.luwbook.specs.Reached.{by_last, Ends}
use Rattle.luwbook.proofs.Laws.{writable, runs_writable, shown, on_ok}
use Rattle.luwbook.proofs.Running.finish.Goals as goal

pub write_out-requires : goal.write_out-requires
write_out-requires c =
    let was = c.requires.standing in
    writable (shown c.flush.ensures.flushes c.run_last.ensures.simulates_step was.stands).printed (by_last was.reached)

pub write_out-requires-2 : goal.write_out-requires-2
write_out-requires-2 c =
    let was = c.requires.standing in
    runs_writable _ was.reached (shown c.flush.ensures.flushes c.run_last.ensures.simulates_step was.stands).image
    (omega arith) c.put_listing-end.ensures

pub returns : goal.returns
returns c = on_ok (Ends c.args.self.now.reading c.args.self.now.img.now c.run_last.new.img) _ (λ e g s. (shown c.flush.ensures.flushes c.run_last.ensures.simulates_step s).image)
