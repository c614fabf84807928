-- `page::write::write_page` meets its contract: a turn writes an entry. Assumes nothing.
use Rattle.std.proofs.Common.{◌≡◌, sym, ap, ◌∙◌, arith}
use Rattle.lists.specs.Lists.{listed}
use Rattle.page.specs.Decoded.{slot_at, entry_list}
use Rattle.page.proofs.Laws.Decoded.{length_shown}
use Rattle.page.proofs.Laws.Trees.{page_bytes, page_none, page_listed_more, page_whole}
use Rattle.page.proofs.write.write_page.Goals as goal

pub loop-i-init : goal.loop-i-init
unfolding listed
loop-i-init c = c.write_blank.ensures ∙ sym (page_none c.args.half c.args.p.level c.args.p.len)

pub loop-i-preserved : goal.loop-i-preserved
loop-i-preserved c =
    let p = c.args.p in
    page_listed_more c.args.half p.level p.len c.loop-i.i (λ j. slot_at p j) (omega arith) c.set_slot.ensures c.entry.ensures
    c.loop-i.invariant

pub returns : goal.returns
unfolding entry_list
returns c =
    let half = c.args.half in
    let p = c.args.p in
    let e : c.loop-i.i ≡ p.len = omega arith in
    c.loop-i.invariant
    ∙ ap (λ k. page_bytes half p.level p.len (listed k (λ j. slot_at p j))) e
    ∙ page_whole half p.level p.len (entry_list p) (length_shown p)
