-- `edit::split::rest_of` meets its contract: the entries from the k-th on, behind none. Assumes nothing.
use Rattle.lists.specs.Lists.{listed}
use Rattle.edit.specs.Contents.{first_slots}
use Rattle.edit.proofs.split.rest_of.Goals as goal

pub returns : goal.returns
unfolding first_slots listed
returns c = c.move_entries.ensures
