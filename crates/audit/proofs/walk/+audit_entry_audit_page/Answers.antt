-- The cycle of `audit_page` and `audit_entry` meets its contracts. Assumes nothing.
use Rattle.std.proofs.Common.{ap, ◌∙◌, arith, rules}
use Rattle.page.specs.Layout.{entry_count}
use Rattle.audit.proofs.Walks.{standing_within, standing_size, standing_bounded, entry_reads, entered, page_unfit}
use Rattle.audit.proofs.Walks.{leaf_counted, tested, passing_none, passing_more, passing_stops, passing_most, passing_all}
use Rattle.audit.proofs.walk.+audit_entry_audit_page.Goals as goal

-- ---- an entry

pub audit_entry-page_at-s-requires : goal.audit_entry-page_at-s-requires
audit_entry-page_at-s-requires t c = standing_within c.requires.standing

pub audit_entry-context_below-below-requires-clause-size : goal.audit_entry-context_below-below-requires-clause-size
audit_entry-context_below-below-requires-clause-size t c = standing_size c.requires.standing c.page_at-s.ensures

pub audit_entry-context_below-below-requires-clause-within : goal.audit_entry-context_below-below-requires-clause-within
audit_entry-context_below-below-requires-clause-within t c = omega (arith, entry_reads c.requires.standing c.requires.inner c.page_at-s.ensures)

pub audit_entry-context_below-below-requires-clause-inner : goal.audit_entry-context_below-below-requires-clause-inner
audit_entry-context_below-below-requires-clause-inner t c = (c.requires.inner.level, standing_bounded c.requires.standing)

pub audit_entry-child_at-child-requires : goal.audit_entry-child_at-child-requires
audit_entry-child_at-child-requires t c =
    let w = c.requires in
    (standing_size w.standing c.page_at-s.ensures, omega (arith, entry_reads w.standing w.inner c.page_at-s.ensures))

-- the page below an entry, as the code has it
pub audit_entry-page_at-requires : goal.audit_entry-page_at-requires
audit_entry-page_at-requires t c =
    let b = entered c.requires.standing c.requires.inner c.page_at-s.ensures c.context_below-below.ensures c.child_at-child.ensures in
    standing_within b.standing

pub audit_entry-page_fit-requires-clause-bytes : goal.audit_entry-page_fit-requires-clause-bytes
audit_entry-page_fit-requires-clause-bytes t c =
    let b = entered c.requires.standing c.requires.inner c.page_at-s.ensures c.context_below-below.ensures c.child_at-child.ensures in
    (b.standing.half_least, standing_size b.standing c.page_at.ensures)

pub audit_entry-page_fit-requires-clause-bounded : goal.audit_entry-page_fit-requires-clause-bounded
audit_entry-page_fit-requires-clause-bounded t c =
    let b = entered c.requires.standing c.requires.inner c.page_at-s.ensures c.context_below-below.ensures c.child_at-child.ensures in
    standing_bounded b.standing

pub audit_entry-returns-then-not-page_fit : goal.audit_entry-returns-then-not-page_fit
audit_entry-returns-then-not-page_fit t c =
    let b = entered c.requires.standing c.requires.inner c.page_at-s.ensures c.context_below-below.ensures c.child_at-child.ensures in
    page_unfit _ _ _ _ _ (tested _ _ _ _ _ c.page_at.ensures c.page_fit.ensures (search rules))
    ∙ b.counted

pub audit_entry-audit_page-requires : goal.audit_entry-audit_page-requires
audit_entry-audit_page-requires t c =
    let b = entered c.requires.standing c.requires.inner c.page_at-s.ensures c.context_below-below.ensures c.child_at-child.ensures in (
      omega (arith, c.requires.inner.level, b.level),
      (b.standing, tested _ _ _ _ _ c.page_at.ensures c.page_fit.ensures (search rules)),
    )

pub audit_entry-returns : goal.audit_entry-returns
audit_entry-returns t c =
    let b = entered c.requires.standing c.requires.inner c.page_at-s.ensures c.context_below-below.ensures c.child_at-child.ensures in
    c.audit_page.ensures ∙ b.counted

-- ---- a page

pub audit_page-returns-then-at-eq0 : goal.audit_page-returns-then-at-eq0
audit_page-returns-then-at-eq0 t c = leaf_counted _ _ _ _ _ c.if-at-eq0.true c.requires.fit

pub audit_page-entry_count-n-requires : goal.audit_page-entry_count-n-requires
audit_page-entry_count-n-requires t c = omega (arith, standing_size c.requires.standing c.page_at.ensures)

pub audit_page-loop-i-init : goal.audit_page-loop-i-init
audit_page-loop-i-init t c =
    passing_none c.requires.standing (omega (arith, c.if-at-eq0.false)) c.requires.fit
    (c.entry_count-n.ensures ∙ ap entry_count c.page_at.ensures)

pub audit_page-returns-in_err-pages : goal.audit_page-returns-in_err-pages
audit_page-returns-in_err-pages t c =
    c.from_residual.ensures
    ∙ passing_stops c.loop-i.invariant c.loop-i-test.true c.audit_entry.ensures c.in_err-pages.was

-- an entry more
pub audit_page-loop-i-preserved : goal.audit_page-loop-i-preserved
audit_page-loop-i-preserved t c =
    passing_more c.loop-i.invariant _ c.loop-i-test.true c.audit_entry.ensures c.in_ok-pages.was

pub audit_page-overflow_add-pages : goal.audit_page-overflow_add-pages
audit_page-overflow_add-pages t c =
    let more = audit_page-loop-i-preserved t c in
    omega (arith, more.most, more.within, passing_most more, more.standing.half_most)

pub audit_page-returns : goal.audit_page-returns
audit_page-returns t c = passing_all c.loop-i.invariant c.loop-i-test.false
