-- `promises::rebuild` meets its contract: `luw_rebuild` promises every byte of target and scratch, and an image that is lent for reading is
-- kept. Assumes nothing.
use Rattle.claims.specs.Trace.{kept}
use Rattle.claims.proofs.Steps.{steps}
use Rattle.promises.proofs.AfterLists.{rebuild_as}
use Rattle.promises.proofs.Rebuilt.{left_so, goes_on}
use Rattle.promises.proofs.rebuild.Goals as goal

pub returns : goal.returns
returns c =
    let p = c.luw_rebuild.ensures in
    record {
      as_defined = p;
      step = kept;
      goes_on = λ z. goes_on _ _ _ _ _ (rw z at p);
      step_2 = λ n. steps.of_refused_rebuild _ _ _ _ _ _ p n;
      rebuilt_from = λ z. left_so _ _ _ _ _ (rw z at p);
      after_lists = rebuild_as _ _ _ _ _ _ p;
    }
