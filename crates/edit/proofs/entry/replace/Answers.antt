-- `edit::entry::replace` meets its contract: a store at a slot is one in the list. Assumes nothing.
use Rattle.std.proofs.Common.{ap, ◌∙◌, rules}
use Rattle.page.specs.declared.Page.{Page}
use Rattle.page.specs.Decoded.{entry_list}
use Rattle.edit.proofs.Edits.{replace_entries}
use Rattle.edit.proofs.entry.replace.Goals as goal

pub returns : goal.returns
returns c =
    let e = c.set_entry.ensures in
    record {
      level = ap (λ (p : Page). p.level) e;
      entries = ap entry_list e ∙ replace_entries c.args.p c.args.i c.args.e (search rules) c.requires.0 c.requires.1;
    }
