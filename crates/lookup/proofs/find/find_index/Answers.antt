-- `lookup::find::find_index` meets its contract: by the starts counted. Assumes nothing.
use Rattle.std.proofs.Common.{◌-◌, arith}
use Rattle.fields.proofs.Laws.Digits.{bytes_of}
use Rattle.page.proofs.Laws.Entries.{entry_count_fits}
use Rattle.lookup.proofs.Laws.Finds.{searched_index, one_later, counted_index}
use Rattle.lookup.proofs.find.find_index.Goals as goal

-- the last entry is the one
pub returns-then-start_at-t : goal.returns-then-start_at-t
returns-then-start_at-t c =
    searched_index c.requires (c.args.n - 1) (omega (arith, c.requires.some))
    (omega (arith, c.start_at.ensures, c.if-start_at-t.true)) (λ l. absurd (omega arith))

-- no more than there are entries, whose number has 32 bits itself
pub overflow_add-later : goal.overflow_add-later
overflow_add-later c =
    let s = c.args.s.now in
    omega (arith, c.loop-i.invariant.most, c.requires.len, entry_count_fits s (bytes_of s c.type_inv.s))

pub loop-i-preserved-then-t-start_at : goal.loop-i-preserved-then-t-start_at
loop-i-preserved-then-t-start_at c =
    one_later c.requires c.loop-i.invariant (omega arith) (omega (arith, c.start_at-in-loop-i.ensures, c.if-t-start_at.true))

pub returns : goal.returns
returns c = counted_index c.requires c.loop-i.invariant (omega (arith, c.loop-i-test.false))
