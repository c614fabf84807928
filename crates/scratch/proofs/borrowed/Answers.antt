-- `scratch::borrowed` meets its contract. Assumes nothing.
use Rattle.std.proofs.Common.{◌≡◌, ℕ, ◌+◌, ◌/◌, ap, ◌∙◌, arith}
use Rattle.std.specs.Int.{div_ceil}
use Rattle.calls.specs.Refusals.{borrowed}
use Rattle.scratch.proofs.borrowed.Goals as goal

eighths : (n : ℕ) → div_ceil n 8 ≡ (n + 7) / 8
eighths n = omega arith

pub returns : goal.returns
unfolding borrowed
returns c = c.div_ceil.ensures ∙ eighths c.page_count.result ∙ ap (λ n. (n + 7) / 8) c.page_count.ensures
