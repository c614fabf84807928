-- `neighbours::walk::leaf_below` meets its contract. Assumes nothing.
use Rattle.std.proofs.Common.{◌≡◌, refl}
use Rattle.neighbours.specs.Edges.{page_edges}
use Rattle.neighbours.specs.Standing.{Standing}
use Rattle.neighbours.proofs.Laws.{standing_within, standing_compared, leaf_found, inner_reads, inner_below, inner_combinable}
use Rattle.neighbours.proofs.Laws.{inner_found}
use Rattle.neighbours.proofs.walk.leaf_below.Goals as goal
use Rattle.neighbours.proofs.walk.leaf_below.Goals.{After-child_at, After-leaf_edges}

-- the page below, and what is found there
below : (c : After-child_at) → Standing c.args.half c.args.img.now 0 c.child_at.result
below c = inner_below c.requires c.page_at-s.ensures c.child_at.ensures

pub page_at-s-requires : goal.page_at-s-requires
page_at-s-requires c = standing_within c.requires.standing

pub pair_at-requires : goal.pair_at-requires
pair_at-requires c = inner_reads c.requires c.page_at-s.ensures

pub child_at-requires : goal.child_at-requires
child_at-requires c = inner_reads c.requires c.page_at-s.ensures

pub page_at-requires : goal.page_at-requires
page_at-requires c = standing_within (below (goal.at.page_at-requires c).After-child_at)

pub leaf_edges-requires : goal.leaf_edges-requires
leaf_edges-requires c =
    let w = below (goal.at.leaf_edges-requires c).After-child_at in
    (w.half_least, w.half_most, standing_compared w c.page_at.ensures)

edges : (c : After-leaf_edges) → c.leaf_edges.result ≡ page_edges c.args.half c.args.img.now 0 c.child_at.result
edges c = leaf_found (inner_below c.requires c.page_at-s.ensures c.child_at.ensures) refl c.page_at.ensures c.leaf_edges.ensures

pub under_pair-requires : goal.under_pair-requires
under_pair-requires c =
    inner_combinable c.requires c.page_at-s.ensures c.child_at.ensures c.pair_at.ensures (edges (goal.at.under_pair-requires c).After-leaf_edges)

pub returns : goal.returns
returns c =
    inner_found c.requires c.page_at-s.ensures c.child_at.ensures c.pair_at.ensures (edges (goal.at.returns c).After-leaf_edges)
    c.under_pair.ensures
