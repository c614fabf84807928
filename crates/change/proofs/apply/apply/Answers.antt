-- `apply` meets its contract: each step finds what the one before left. Assumes nothing.
use Rattle.steps.specs.Change.{cuts, change}
use Rattle.change.proofs.apply.apply.Goals as goal

pub returns : goal.returns
unfolding change cuts
returns c X h k =
    let a = c.cut.ensures X h k.for_a in
    let b = c.cut-2.ensures _ a k.for_b in
    let d = c.combine_span.ensures _ b k.for_c in
    let f = c.heal.ensures _ d k.for_d in
    let g = c.heal-2.ensures _ f k.for_e in
    c.count_change.ensures _ g k.for_count
