-- `rebuild::pages::write_page` meets its contract: no slot, one more, all. Assumes nothing.
use Rattle.std.proofs.Common.{arith, ap, ◌∙◌}
use Rattle.page.specs.Layout.{page_size, with_entry}
use Rattle.page.proofs.Laws.Lent.{lent_range, back_range}
use Rattle.rebuild.proofs.Laws.Slots.{slots_none, slots_more, slots_all}
use Rattle.rebuild.proofs.pages.write_page.Goals as goal

pub loop-i-init : goal.loop-i-init
loop-i-init g c = slots_none c.args.half c.args.p c.args.level c.args.size (g.E.Entries.told c.args.entries) _

pub loop-i-preserved : goal.loop-i-preserved
loop-i-preserved g c =
    let args = c.args in
    let size = page_size args.half in
    let lent = c.page_range-in-loop-i.ensures in
    let set = back_range c.loop-i.img size args.p lent (omega (arith, c.loop-i.invariant.long)) c.set_slot.auto.s
    (c.set_slot.ensures ∙ ap (with_entry args.half c.loop-i.i c.entry-e.result) (lent_range c.loop-i.img size args.p lent)) in
    slots_more args.half args.p args.level args.size (g.E.Entries.told args.entries) _ c.requires.few.1 (omega arith) c.loop-i.invariant
    c.entry-e.ensures (λ s bs h. c.requires.kept c.loop-i.i (omega arith) s bs h) (omega arith) set

pub returns : goal.returns
returns g c =
    let args = c.args in
    let blank = back_range args.img.now (page_size args.half) args.p c.page_range.ensures (omega arith) c.write_blank.auto.s c.write_blank.ensures in
    slots_all args.half args.p args.level args.size (g.E.Entries.told args.entries) _ args.img.now
    (omega (arith, c.loop-i.invariant.within)) c.loop-i.invariant (record { room = omega arith; bytes = blank })
