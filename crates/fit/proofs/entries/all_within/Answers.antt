-- `fit::entries::all_within` meets its contract: a turn tests an entry. Assumes nothing.
use Rattle.std.proofs.Common.{◌≡◌, ◌/◌, ◌%◌, ◌^◌, ◌&&◌, sym, ap, ◌∙◌, ap₂, arith}
use Rattle.rule.proofs.Wrapped.{top_or}
use Rattle.fields.specs.Bytes.{every}
use Rattle.fields.proofs.Laws.Tests.{every_none, every_more}
use Rattle.page.specs.Fit.{child_ok, pair_ok}
use Rattle.fit.specs.Limits.{entry_ok}
use Rattle.fit.proofs.entries.all_within.Goals as goal

pub loop-i-init : goal.loop-i-init
loop-i-init c = λ h at limits. sym (every_none _)

pub loop-i-preserved : goal.loop-i-preserved
loop-i-preserved c =
    let i = c.loop-i.i in
    let w = c.count_and_child_at.result in
    λ h at limits.
    top_or c.loop-i.over c.overstep-over.result
    ∙ ap₂ ◌&&◌ (c.loop-i.invariant h at limits)
    (c.overstep-over.ensures
    ∙ limits.same c.sum_bits_at.result (w % 2 ^ 32) (w / 2 ^ 32) (omega arith) (omega arith)
    ∙ ap₂ ◌&&◌ (ap (child_ok h.pages at.level) c.count_and_child_at.ensures.1)
    (ap (pair_ok h at) (λ j. record { sum = c.sum_bits_at.ensures j; count = c.count_and_child_at.ensures.0 j })))
    ∙ sym (every_more i (entry_ok c.args.half h at c.args.s.now))

pub returns : goal.returns
returns c h at limits =
    let e : c.loop-i.i ≡ c.args.n = omega arith in
    c.loop-i.invariant h at limits ∙ ap (λ n. every n (entry_ok c.args.half h at c.args.s.now)) e
