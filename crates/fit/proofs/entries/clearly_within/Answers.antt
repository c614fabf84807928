-- `fit::entries::clearly_within` meets its contract: a turn adds an entry to the two `or`. Assumes nothing.
use mathlib.Core.Bool.{and-eq-true_iff}
use Rattle.std.proofs.Common.{ℕ, ◌+◌, ◌%◌, ◌^◌, arith, below_none, below_more, leb-true}
use Rattle.fit.proofs.Laws.Clear.{or_least, under_more, clearly_tells}
use Rattle.fit.proofs.entries.clearly_within.Goals as goal

pub loop-i-init : goal.loop-i-init
loop-i-init c = below_none _

pub loop-i-preserved : goal.loop-i-preserved
loop-i-preserved c =
    let x : ℕ = (c.sum_bits_at.result + c.args.l.sum) % 2 ^ 64 in
    let m = c.count_and_child_at-marks.result in
    below_more _ _ (λ j k. under_more x m (c.loop-i.invariant j k))
    (record {
      bits = c.sum_bits_at.result;
      mark = m;
      fits = omega arith;
      sum = c.sum_bits_at.ensures;
      count = c.count_and_child_at-marks.ensures.0;
      child = c.count_and_child_at-marks.ensures.1;
      under_sums = (or_least c.loop-i.sums x).1;
      under_marks = (or_least c.loop-i.marks m).1;
    })

pub returns : goal.returns
returns c passed =
    let parts = (and-eq-true_iff _ _).0 passed in
    clearly_tells c.requires.small.0 c.requires.small.1 (leb-true _ _ parts.0) (leb-true _ _ parts.1)
    (λ i k. c.loop-i.invariant i (omega arith))
