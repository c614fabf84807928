-- `runs::listed::run_at` meets its contract: its numbers are read as they stand. Assumes nothing.
use Rattle.std.proofs.Common.{w32, w64}
use Rattle.page.proofs.Laws.Signed.{result_is}
use Rattle.runs.specs.Listed.{run_at}
use Rattle.runs.proofs.listed.run_at.Goals as goal

pub returns : goal.returns
unfolding run_at
returns c =
    λ j. record {
      start = c.read_at.ensures j;
      pair = record {
        sum = result_is w64 c.read_at-2.type_inv c.read_at-2.ensures j;
        count = result_is w32 c.read_at-3.type_inv c.read_at-3.ensures j;
      };
    }
