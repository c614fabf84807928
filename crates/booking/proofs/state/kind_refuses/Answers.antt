-- `booking::state::kind_refuses` meets its contract. Assumes nothing.
use Rattle.std.proofs.Common.{rules, refl}
use Rattle.calls.specs.Changes.{withdraws}
use Rattle.booking.proofs.state.kind_refuses.Goals as goal

pub returns-in-Entering : goal.returns-in-Entering
unfolding withdraws
returns-in-Entering c = search rules

pub returns-in-Withdrawing : goal.returns-in-Withdrawing
unfolding withdraws
returns-in-Withdrawing c = rw c.in-Withdrawing.is refl
