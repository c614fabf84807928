-- `fit::bounds::limits` meets its contract, by the kind and by what is left of the bounds. Assumes nothing.
use Rattle.std.proofs.Common.{◌≡◌, ℕ, ◌^◌, ◌<◌, ◌-◌, ◌*◌, ◌&&◌, leb, true, arith, eq-eqb, ne_eqb, leb-true}
use mathlib.Core.Bool.{and-eq-true_iff}
use Rattle.page.specs.declared.Head.{Head}
use Rattle.page.specs.Fit.{PageContext}
use Rattle.fit.specs.Limits.{LimitsOf}
use Rattle.fit.proofs.Laws.Limits.{first_child, past_child, limits_mark, limits_total, limits_none}
use Rattle.fit.proofs.bounds.limits.Goals as goal

pub returns-then-h-ne-TOTALS : goal.returns-then-h-ne-TOTALS
returns-then-h-ne-TOTALS c =
    let b = c.children-first.ensures in
    limits_mark c.args.h c.args.at _ _ b.first b.past (omega arith) (ne_eqb _ _ c.if-h-ne-TOTALS.true)

-- kind 1, by the changes as the code has them
total : (h : Head) (at : PageContext) (first past changes : ℕ) → first ≡ first_child at.level → past ≡ past_child h.pages at.level
    → changes ≡ h.changes → h.pages < 2 ^ 32 → h.changes < 2 ^ 32 → h.kind ≡ 1
    → (leb at.sums (1000000 * changes) && leb at.counts changes) ≡ true
    → LimitsOf h at (record {
      sum = 1000000 * changes - at.sums;
      each = 0;
      below = changes - at.counts;
      span = 2 * (changes - at.counts);
      first = first;
      past = past;
    })
total h at first past changes f p e few some kind room =
    let parts = (and-eq-true_iff _ _).0 (rw e at room) in
    rw e (limits_total h at first past f p few some (eq-eqb _ _ kind) (leb-true _ _ parts.0) (leb-true _ _ parts.1))

pub returns-then-at-most : goal.returns-then-at-most
returns-then-at-most c =
    let b = c.children-first.ensures in
    total c.args.h c.args.at _ _ _ b.first b.past c.from-changes.ensures (omega arith) (omega arith) c.if-h-ne-TOTALS.false
    c.if-at-most.true

pub returns : goal.returns
returns c =
    let b = c.children-first.ensures in
    let e = c.from-changes.ensures in
    limits_none c.args.h c.args.at _ _ b.first b.past (eq-eqb _ _ c.if-h-ne-TOTALS.false) (rw e at c.if-at-most.false)
