-- `page::Page::entry` meets its contract: the two signed numbers are those that stand in the arrays. Assumes nothing.
use Rattle.std.proofs.Common.{get_or, pos, w32, w64, refl, arith}
use Rattle.page.specs.Entries.{entry}
use Rattle.page.specs.Decoded.{slot_at}
use Rattle.page.proofs.Laws.Signed.{result_is}
use Rattle.page.proofs.Page.entry.Goals as goal

pub returns : goal.returns
unfolding slot_at
returns c =
    let p = c.args.self.now in
    let i = c.args.i in
    λ j.
    entry (get_or p.starts i 0)
    (record { sum = result_is w64 {v = get_or p.sums i (pos 0)} (omega arith) refl j; count = result_is w32 {v = get_or p.counts i (pos 0)} (omega arith) refl j })
    (get_or p.children i 0)
