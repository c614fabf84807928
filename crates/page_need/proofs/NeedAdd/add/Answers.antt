-- The sum of two needs meets its contract. Assumes nothing.
use Rattle.std.proofs.Common.{refl}
use Rattle.page_need.specs.Needs.{add_needs}
use Rattle.page_need.proofs.NeedAdd.add.Goals as goal

pub returns : goal.returns
unfolding add_needs
returns c = refl
