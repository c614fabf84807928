-- `edit::split::first_of` meets its contract: a smaller length shows the first slots alone. Assumes nothing.
use Rattle.std.proofs.Common.{refl, ◌∙◌}
use Rattle.edit.proofs.Slots.{cut_first_slots}
use Rattle.edit.proofs.Edits.{slots_first}
use Rattle.edit.proofs.split.first_of.Goals as goal

pub returns : goal.returns
returns c =
    record {
      level = refl;
      entries = cut_first_slots c.args.k c.args.p ∙ slots_first c.args.p c.args.k c.requires;
    }
