-- A page's measure is 2·level + 1, an entry's 2·level: the level falls from an entry to the page below. The loop's invariant: the entries
-- passed have sent below what they send.
use Rattle.std.proofs.Common.{◌+◌, ◌*◌}
use Rattle.combine_span.proofs.Sent as turns
use Rattle.combine_span.proofs.pages.+combine_entry_combine_page.Given as goal

abbrev pub decreases-combine_entry : goal.decreases-combine_entry
decreases-combine_entry l = 2 * l.level

abbrev pub decreases-combine_page : goal.decreases-combine_page
decreases-combine_page l = 2 * l.level + 1

abbrev pub invariant-combine_page-loop-i : goal.invariant-combine_page-loop-i
invariant-combine_page-loop-i l = turns.Sending l.q l.level l.hi l.p l.half l.initial.img l.i-end l.i l.img
