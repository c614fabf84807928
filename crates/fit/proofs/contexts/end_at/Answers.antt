-- `fit::contexts::end_at` meets its contract: the entry is the last, or not. Assumes nothing.
use Rattle.std.proofs.Common.{sym, ◌∙◌, arith}
use Rattle.fit.proofs.Laws.Parts.{end_next, end_last}
use Rattle.fit.proofs.contexts.end_at.Goals as goal

pub returns-then-i-entry_count : goal.returns-then-i-entry_count
returns-then-i-entry_count c =
    c.start_at.ensures ∙ sym (end_next c.args.s.now c.args.hi c.args.i (omega (arith, c.entry_count.ensures)))

pub returns-else-i-entry_count : goal.returns-else-i-entry_count
returns-else-i-entry_count c = sym (end_last c.args.s.now c.args.hi c.args.i (omega (arith, c.entry_count.ensures)))
