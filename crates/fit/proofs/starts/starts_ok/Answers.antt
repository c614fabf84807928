-- `fit::starts::starts_ok` meets its contract. Assumes nothing.
use Rattle.std.proofs.Common.{suc, ◌-◌, ◌&&◌, eqb, ltb, ap, ◌∙◌, ap₂}
use Rattle.fields.specs.Bytes.{every}
use Rattle.page.specs.Layout.{start_at}
use Rattle.page.specs.Fit.{starts_ok}
use Rattle.fit.proofs.starts.starts_ok.Goals as goal

pub returns : goal.returns
unfolding starts_ok
returns c =
    let s = c.args.s.now in
    let at = c.args.at in
    ap₂ ◌&&◌ (ap (λ x. eqb x at.lo) c.start_at.ensures)
    (ap₂ ◌&&◌ c.rising.ensures (ap (λ x. ltb x at.hi) c.start_at-2.ensures))
    ∙ ap (λ n. eqb (start_at s 0) at.lo
    && (every (n - 1) (λ i. ltb (start_at s i) (start_at s (suc i))) && ltb (start_at s (n - 1)) at.hi)) c.requires.0
