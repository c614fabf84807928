-- A path down from a fit head: where a walk stands after n fit entries. Assumes nothing.
use Rattle.std.specs.Prelude.{ℕ, ◌+◌, ◌*◌, ◌<◌, ◌≤◌, cond, ◌==◌}
use Rattle.rule.specs.Time.{Span, most_value}
use Rattle.page.specs.declared.Head.{Head}
use Rattle.page.specs.Fit.{PageContext, most_height}

-- What the absolute counts of n entries on a path add to at most, and their sums to a million times that.
unfoldable pub weight : Head → ℕ → ℕ
weight h n = cond (h.kind == 1) h.changes n

-- A context under n fit entries.
pub record Path (h : Head) (n : ℕ) (at : PageContext) : Type 0 where
  pub level : n + at.level < most_height
  pub span : Span at.lo at.hi
  pub sums : at.sums ≤ most_value * weight h n
  pub counts : at.counts ≤ weight h n
