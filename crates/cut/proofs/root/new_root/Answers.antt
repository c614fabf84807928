-- `new_root` meets its contract by computation. Assumes nothing.
use Rattle.std.proofs.Common.{refl}
use Rattle.lists.specs.Lists.{listed}
use Rattle.page.specs.Decoded.{slot_at, entry_list}
use Rattle.cut.proofs.root.new_root.Goals as goal

pub returns : goal.returns
unfolding entry_list slot_at listed
returns c = record { level = refl; entries = refl }
