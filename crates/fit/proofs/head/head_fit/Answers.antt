-- `fit::head::head_fit` meets its contract: each part is its own. Assumes nothing.
use Rattle.std.proofs.Common.{◌-◌, ◌&&◌, ap, ◌∙◌, ap₂}
use Rattle.fields.specs.Bytes.{part, all_are}
use Rattle.page.specs.declared.Head.{Head}
use Rattle.page.specs.Fit.{ranges_ok, field_ok, head_fit}
use Rattle.fit.proofs.head.head_fit.Goals as goal

pub returns : goal.returns
unfolding head_fit
returns c =
    let h = c.read_head-h.ensures in
    ap₂ ◌&&◌ (c.ranges_ok.ensures ∙ ap (ranges_ok c.args.pages) h)
    (ap₂ ◌&&◌ (c.field_ok.ensures ∙ ap (λ (h : Head). field_ok c.args.half h.capacity) h)
    (c.all_ff.ensures ∙ ap (λ k. all_are 255 (part c.args.s.now 40 (k - 40))) c.page_size-rest.ensures))
