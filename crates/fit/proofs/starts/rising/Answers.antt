-- `fit::starts::rising` meets its contract: a turn tests a start. Assumes nothing.
use Rattle.std.proofs.Common.{◌≡◌, suc, ◌-◌, ◌&&◌, nat_lt, sym, ap, ◌∙◌, ap₂, add-one, arith}
use Rattle.fields.specs.Bytes.{every}
use Rattle.fields.proofs.Laws.Tests.{every_none, every_more}
use Rattle.page.specs.Layout.{start_at}
use Rattle.fit.proofs.starts.rising.Goals as goal

pub loop-i-init : goal.loop-i-init
loop-i-init c = sym (every_none _)

pub loop-i-preserved : goal.loop-i-preserved
loop-i-preserved c =
    let s = c.args.s.now in
    let i = c.loop-i.i in
    ap₂ ◌&&◌ c.loop-i.invariant
    (ap₂ nat_lt c.start_at.ensures (c.start_at-in-loop-i.ensures ∙ ap (start_at s) (add-one i)))
    ∙ sym (every_more i (λ k. nat_lt (start_at s k) (start_at s (suc k))))

pub returns : goal.returns
returns c =
    let s = c.args.s.now in
    let e : c.loop-i.i ≡ c.args.n - 1 = omega arith in
    c.loop-i.invariant ∙ ap (λ n. every n (λ k. nat_lt (start_at s k) (start_at s (suc k)))) e
