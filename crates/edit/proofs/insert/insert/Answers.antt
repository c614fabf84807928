-- `edit::insert::insert` meets its contract: a slot is made free, and e is put there. Assumes nothing.
use Rattle.std.proofs.Common.{◌≡◌, ◌+◌, [], ◌∷◌, ◌∙◌, arith}
use lib.ListN.{length-append, length-drop}
use Rattle.lists.specs.Lists.{splice}
use Rattle.page.proofs.Laws.Decoded.{length_shown}
use Rattle.edit.proofs.Slots.{first_slots_length}
use Rattle.edit.proofs.Edits.{has_len, has_as, has_then, insert_entries}
use Rattle.edit.proofs.insert.insert.Goals as goal

pub replace-requires : goal.replace-requires
replace-requires c =
    let one_more : c.move_entries-opened.result.len ≡ c.args.p.len + 1 =
    has_len c.move_entries-opened.ensures ∙ simp (length-append, length-drop, first_slots_length, length_shown) (omega arith) in
    omega arith

pub returns : goal.returns
returns c =
    has_as (has_then (λ es. splice c.args.i (c.args.e ∷ []) es) c.move_entries-opened.ensures c.replace.ensures)
    (insert_entries c.args.p c.args.i c.args.e c.requires.0)
