-- `combine_span` meets its contract: the root's page and level stand in the head that was read. Assumes nothing.
use Rattle.steps.specs.Combine.{combine_span}
use Rattle.store.specs.Encoding.{Encodes}
use Rattle.store.proofs.Supplying.{by_head}
use Rattle.combine_span.specs.SpanCombinable.{combine_span_by, SpanCombinable}
use Rattle.combine_span.proofs.root.combine_span.Goals as goal

pub returns : goal.returns
unfolding combine_span
returns c X h r =
    let args = c.args in
    by_head (λ Y. Encodes args.half args.img.now Y → SpanCombinable args.q Y
    → Encodes args.half c.combine_page.new.img (combine_span_by args.q Y))
    (c.head_of-h.ensures X h tt) (λ k t. c.combine_page.ensures _ k t.root) h r
