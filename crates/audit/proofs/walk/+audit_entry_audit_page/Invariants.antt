-- A page's measure is 2·level + 1, an entry's 2·level: the level falls from an entry to the page below. The loop's invariant: what was
-- counted below the entries passed.
use Rattle.std.proofs.Common.{◌+◌, ◌*◌}
use Rattle.audit.proofs.Walks.{Passing}
use Rattle.audit.proofs.walk.+audit_entry_audit_page.Given as goal

abbrev pub decreases-audit_entry : goal.decreases-audit_entry
decreases-audit_entry l = 2 * l.at.level

abbrev pub decreases-audit_page : goal.decreases-audit_page
decreases-audit_page l = 2 * l.at.level + 1

abbrev pub invariant-audit_page-loop-i : goal.invariant-audit_page-loop-i
invariant-audit_page-loop-i l = Passing l.half l.img l.h l.at l.p l.n l.pages l.i
