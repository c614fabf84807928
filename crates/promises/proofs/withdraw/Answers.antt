-- `promises::withdraw` meets its contract: `luw_withdraw` promises what a booking leaves, and by that it is a step and leaves what every
-- accepted change does. Assumes nothing.
use Rattle.std.proofs.Common.{rules}
use mir.Facts.{to_z-of_z}
use Rattle.fields.proofs.Laws.Digits.{bytes_of}
use Rattle.promises.proofs.AfterLists.{booking_promised}
use Rattle.promises.proofs.withdraw.Goals as goal

pub returns : goal.returns
returns c =
    let p = rw (to_z-of_z c.ranges.v) at c.luw_withdraw.ensures in
    let made = booking_promised _ _ _ _ _ _ _ _ _ (bytes_of c.args.img.now (search rules)) p in
    record { as_defined = p; step = made.0; accepted_change = made.1.0; after_lists = made.1.1 }
