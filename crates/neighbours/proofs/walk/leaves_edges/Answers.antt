-- `neighbours::walk::leaves_edges` meets its contract. Assumes nothing.
use Rattle.std.proofs.Common.{ap, ◌∙◌, arith}
use Rattle.page.specs.Layout.{entry_count}
use Rattle.neighbours.proofs.Laws.{standing_within, standing_size, first_inner, passing_first, passing_inner, passing_more, passing_all}
use Rattle.neighbours.proofs.walk.leaves_edges.Goals as goal

pub page_at-requires : goal.page_at-requires
page_at-requires c = standing_within c.requires

pub entry_count-n-requires : goal.entry_count-n-requires
entry_count-n-requires c = omega (arith, standing_size c.requires c.page_at.ensures)

pub leaf_below-found-requires : goal.leaf_below-found-requires
leaf_below-found-requires c = first_inner c.requires (omega arith)

pub loop-i-init : goal.loop-i-init
loop-i-init c =
    passing_first c.requires (omega arith) (c.entry_count-n.ensures ∙ ap entry_count c.page_at.ensures) c.leaf_below-found.ensures

pub leaf_below-requires : goal.leaf_below-requires
leaf_below-requires c = passing_inner c.loop-i.invariant c.loop-i-test.true

pub loop-i-preserved : goal.loop-i-preserved
loop-i-preserved c = passing_more c.loop-i.invariant c.loop-i-test.true c.leaf_below.ensures c.joined-found.ensures

pub returns : goal.returns
returns c = passing_all c.loop-i.invariant c.loop-i-test.false
