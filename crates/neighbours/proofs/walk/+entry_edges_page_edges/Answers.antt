-- The cycle of `page_edges` and `entry_edges` meets its contracts. Assumes nothing.
use Rattle.std.proofs.Common.{sym, ap, ◌∙◌, arith}
use Rattle.page.specs.Layout.{entry_count}
use Rattle.neighbours.specs.Edges as edges
use Rattle.neighbours.proofs.Laws.{standing_within, standing_size, standing_compared, leaf_found, first_inner, inner_reads}
use Rattle.neighbours.proofs.Laws.{inner_below, inner_combinable, inner_found, passing_first, passing_inner, passing_more, passing_all}
use Rattle.neighbours.proofs.walk.+entry_edges_page_edges.Goals as goal

-- ---- an entry

pub entry_edges-page_at-s-requires : goal.entry_edges-page_at-s-requires
entry_edges-page_at-s-requires t c = standing_within c.requires.standing

pub entry_edges-pair_at-requires : goal.entry_edges-pair_at-requires
entry_edges-pair_at-requires t c = inner_reads c.requires c.page_at-s.ensures

pub entry_edges-overflow_sub-level : goal.entry_edges-overflow_sub-level
entry_edges-overflow_sub-level t c = omega (arith, c.requires.above)

pub entry_edges-child_at-requires : goal.entry_edges-child_at-requires
entry_edges-child_at-requires t c = inner_reads c.requires c.page_at-s.ensures

pub entry_edges-page_edges-requires : goal.entry_edges-page_edges-requires
entry_edges-page_edges-requires t c =
    (omega (arith, c.requires.above), inner_below c.requires c.page_at-s.ensures c.child_at.ensures)

pub entry_edges-under_pair-requires : goal.entry_edges-under_pair-requires
entry_edges-under_pair-requires t c =
    inner_combinable c.requires c.page_at-s.ensures c.child_at.ensures c.pair_at.ensures c.page_edges.ensures

pub entry_edges-returns : goal.entry_edges-returns
entry_edges-returns t c =
    inner_found c.requires c.page_at-s.ensures c.child_at.ensures c.pair_at.ensures c.page_edges.ensures c.under_pair.ensures

-- ---- a page

pub page_edges-page_at-requires : goal.page_edges-page_at-requires
page_edges-page_at-requires t c = standing_within c.requires

pub page_edges-leaf_edges-requires : goal.page_edges-leaf_edges-requires
page_edges-leaf_edges-requires t c = (c.requires.half_least, c.requires.half_most, standing_compared c.requires c.page_at.ensures)

pub page_edges-returns-then-level-eq0 : goal.page_edges-returns-then-level-eq0
page_edges-returns-then-level-eq0 t c = leaf_found c.requires c.if-level-eq0.true c.page_at.ensures c.leaf_edges.ensures

pub page_edges-leaves_edges-requires : goal.page_edges-leaves_edges-requires
page_edges-leaves_edges-requires t c = rw c.if-level-eq1.true at c.requires

pub page_edges-returns-then-level-eq1 : goal.page_edges-returns-then-level-eq1
page_edges-returns-then-level-eq1 t c =
    c.leaves_edges.ensures ∙ ap (λ k. edges.page_edges c.args.half c.args.img.now k c.args.p) (sym c.if-level-eq1.true)

pub page_edges-page_at-requires-2 : goal.page_edges-page_at-requires-2
page_edges-page_at-requires-2 t c = standing_within c.requires

pub page_edges-entry_count-n-requires : goal.page_edges-entry_count-n-requires
page_edges-entry_count-n-requires t c = omega (arith, standing_size c.requires c.page_at-2.ensures)

pub page_edges-entry_edges-found-requires : goal.page_edges-entry_edges-found-requires
page_edges-entry_edges-found-requires t c = (omega arith, first_inner c.requires (omega (arith, c.if-level-eq0.false)))

pub page_edges-loop-i-init : goal.page_edges-loop-i-init
page_edges-loop-i-init t c =
    passing_first c.requires (omega (arith, c.if-level-eq0.false)) (c.entry_count-n.ensures ∙ ap entry_count c.page_at-2.ensures)
    c.entry_edges-found.ensures

pub page_edges-entry_edges-requires : goal.page_edges-entry_edges-requires
page_edges-entry_edges-requires t c = (omega arith, passing_inner c.loop-i.invariant c.loop-i-test.true)

pub page_edges-loop-i-preserved : goal.page_edges-loop-i-preserved
page_edges-loop-i-preserved t c = passing_more c.loop-i.invariant c.loop-i-test.true c.entry_edges.ensures c.joined-found.ensures

pub page_edges-returns : goal.page_edges-returns
page_edges-returns t c = passing_all c.loop-i.invariant c.loop-i-test.false
