-- `page::slots::clear_slot` meets its contract: it is the definition. Assumes nothing.
use Rattle.std.proofs.Common.{◌≡◌, ap, ◌∙◌}
use Rattle.fields.specs.Bytes.{patch, unused}
use Rattle.page.specs.Layout.{start_offset, without_entry}
use Rattle.page.proofs.slots.clear_slot.Goals as goal

pub returns : goal.returns
unfolding without_entry unused
returns c =
    let s = c.args.s.now in
    let e : c.fill.new.s ≡ patch s (start_offset c.args.i) (unused 4) =
    c.fill.ensures ∙ ap (λ o. patch s o (unused 4)) c.start_offset.ensures in
    c.fill-2.ensures ∙ (λ j. patch (e j) (c.entry_offset.ensures j) (unused 16))
