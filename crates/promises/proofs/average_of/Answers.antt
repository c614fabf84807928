-- `promises::average_of` meets its contract, which is what `luw_average_of` promises: the numbers have their widths. Assumes nothing.
use mir.Facts.{to_z-of_z}
use Rattle.promises.proofs.average_of.Goals as goal

pub returns : goal.returns
returns c = rw (to_z-of_z c.ranges.sum, to_z-of_z c.ranges.count) at c.luw_average_of.ensures
