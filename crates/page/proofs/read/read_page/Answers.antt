-- `page::read::read_page` meets its contract: a turn reads an entry. Assumes nothing.
use Rattle.std.proofs.Common.{refl, ◌∙◌, arith}
use Rattle.page.specs.Layout.{entry_at}
use Rattle.page.proofs.Laws.Decoded.{got_more, slots_none, shown_entries}
use Rattle.page.proofs.read.read_page.Goals as goal

pub loop-i-init : goal.loop-i-init
loop-i-init c =
    (record { starts = refl; sums = refl; counts = refl; children = refl }, refl, refl, slots_none _ (entry_at c.args.half c.args.s.now))

pub loop-i-preserved : goal.loop-i-preserved
loop-i-preserved c = got_more c.args.half c.args.s.now c.loop-i.i _ (omega arith) c.set_entry.ensures c.entry_at.ensures c.loop-i.invariant

pub returns : goal.returns
returns c =
    let g = c.loop-i.invariant in
    let len = g.2 ∙ c.entry_count.ensures in
    record {
      level = g.1 ∙ c.level_of.ensures;
      len = len;
      entries = shown_entries _ c.args.half c.args.s.now len (λ i h. g.3 i (omega arith));
    }
