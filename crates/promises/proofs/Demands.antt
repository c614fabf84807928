-- The demands are met. Assumes nothing.
use Rattle.demands.proofs.Demands.{the_demands}
use Rattle.demands.proofs.Neighbours.{neighbours_joined}
use Rattle.promises.specs.Demands.{DemandsMet}
use Rattle.promises.proofs.Refusing.{refusing}
use Rattle.promises.proofs.Tables.{by_status}
use Rattle.promises.proofs.Changes.{every_change_promised}
use Rattle.promises.proofs.SameAnswers.{same_answers}
use Rattle.promises.proofs.Until.{until_promised}
use Rattle.promises.proofs.Rounding.{rounding_promised}
use Rattle.promises.proofs.Rebuilt.{rebuild_promised}
use Rattle.promises.proofs.Header.{header_runs, header_scratch, header_target}

pub demands_met : DemandsMet
demands_met =
    record {
      demands = the_demands;
      neighbours_joined = neighbours_joined;
      refusing = refusing;
      by_status = by_status;
      every_change = every_change_promised;
      same_answers = same_answers;
      until_promised = until_promised;
      rounding_promised = rounding_promised;
      rebuild_promised = rebuild_promised;
      header_runs = header_runs;
      header_scratch = header_scratch;
      header_target = header_target;
    }
