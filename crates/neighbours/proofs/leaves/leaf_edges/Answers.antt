-- `neighbours::leaves::leaf_edges` meets its contract. Assumes nothing.
use Rattle.std.proofs.Common.{◌-◌, ap, ◌∙◌}
use Rattle.fields.specs.Bytes.{every}
use Rattle.page.specs.Layout.{pair_at}
use Rattle.neighbours.specs.Edges.{next_differs, leaf_edges}
use Rattle.neighbours.proofs.leaves.leaf_edges.Goals as goal

pub returns : goal.returns
unfolding leaf_edges
returns c =
    let half = c.args.half in
    let s = c.args.s.now in
    let n = c.entry_count-n.ensures in
    λ j. record {
      apart = (c.leaf_apart.ensures ∙ ap (λ k. every (k - 1) (λ i. next_differs half s i)) n) j;
      first = c.pair_at.ensures j;
      last = (c.pair_at-2.ensures ∙ ap (λ k. pair_at half s (k - 1)) n) j;
    }
