-- `scratch::scratch_ok` meets its contract. Assumes nothing.
use Rattle.std.proofs.Common.{ap, length}
use lib.Dec.{leb}
use Rattle.calls.specs.Refusals.{scratch_ok}
use Rattle.scratch.proofs.scratch_ok.Goals as goal

pub returns : goal.returns
unfolding scratch_ok
returns c = ap (λ n. leb n (length c.args.scratch.now)) c.borrowed.ensures
