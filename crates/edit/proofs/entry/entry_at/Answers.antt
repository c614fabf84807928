-- `edit::entry::entry_at` meets its contract: a slot within the length is an entry. Assumes nothing.
use Rattle.std.proofs.Common.{sym, ◌∙◌}
use Rattle.page.proofs.Laws.Decoded.{at_shown}
use Rattle.edit.proofs.entry.entry_at.Goals as goal

pub returns : goal.returns
returns c = c.entry.ensures ∙ sym (at_shown c.args.p c.args.i c.requires.0)
