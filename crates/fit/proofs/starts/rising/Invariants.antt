-- `ok` is the test of the starts passed. Assumes nothing.
use Rattle.std.proofs.Common.{◌≡◌, suc, nat_lt}
use Rattle.fields.specs.Bytes.{every}
use Rattle.page.specs.Layout.{start_at}
use Rattle.fit.proofs.starts.rising.Given as goal

abbrev pub invariant-loop-i : goal.invariant-loop-i
invariant-loop-i l = l.ok ≡ every l.i (λ k. nat_lt (start_at l.s k) (start_at l.s (suc k)))
