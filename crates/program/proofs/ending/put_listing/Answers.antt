-- `program::ending::put_listing` meets its contract: the line of the runs' number, and then the runs. Assumes nothing.
use Rattle.std.proofs.Common.{arith, sym, rules}
use Rattle.print.proofs.Laws.Puts.{put_as, put_left, prints_then, prints_length}
use Rattle.program.proofs.Laws.Ending.{behind_runs_line, listed_room, listed_printed}
use Rattle.program.proofs.ending.put_listing.Goals as goal

pub put_runs-requires-clause-at_in_bounds : goal.put_runs-requires-clause-at_in_bounds
put_runs-requires-clause-at_in_bounds c = omega (arith, behind_runs_line, listed_room _ _ _ _ _ _ c.list_runs.ensures _ c.unwrap_or-runs.ensures, prints_length)

pub put_runs-requires-clause-n_in_bounds : goal.put_runs-requires-clause-n_in_bounds
put_runs-requires-clause-n_in_bounds c = omega (arith, listed_room _ _ _ _ _ _ c.list_runs.ensures _ c.unwrap_or-runs.ensures)

pub returns : goal.returns
returns c =
    let printed = prints_then (rw c.from.ensures at c.put_runs_line.ensures) c.put_runs.ensures in
    let same = sym printed.same_buffer in
    put_left (search rules) (put_as (listed_printed _ _ _ _ _ _ c.list_runs.ensures _ c.unwrap_or-runs.ensures) printed.put)
