-- `rule::averages::rounded` meets its contract: each step's number fits and is read back as it is. Assumes nothing.
use Rattle.std.proofs.Common.{sym, ◌∙◌, to_z-of_z}
use Rattle.rule.proofs.Rounding.{steps}
use Rattle.rule.proofs.averages.rounded.Goals as goal

pub overflow_add-result : goal.overflow_add-result
overflow_add-result c =
    let st = steps _ _ c.requires in
    let away = rw (to_z-of_z c.ranges.sum) at c.away.ensures in
    rw (to_z-of_z c.ranges.sum, to_z-of_z c.ranges.count, to_z-of_z st.scaled, to_z-of_z st.divided, away, to_z-of_z st.step) st.stepped

pub returns-then-next_taken : goal.returns-then-next_taken
returns-then-next_taken c =
    let st = steps _ _ c.requires in
    let away = rw (to_z-of_z c.ranges.sum) at c.away.ensures in
    let rest =
    rw (to_z-of_z c.ranges.sum, to_z-of_z c.ranges.count, to_z-of_z st.scaled, to_z-of_z st.left) at c.unsigned_abs-rest.ensures.value in
    let size = rw (to_z-of_z c.ranges.count) at c.unsigned_abs.ensures.value in
    let taken =
    rw (to_z-of_z c.ranges.sum, to_z-of_z c.ranges.count, to_z-of_z st.scaled, to_z-of_z st.divided, rest, size) at c.next_taken.ensures in
    let told = sym taken ∙ c.if-next_taken.true in
    rw (to_z-of_z c.ranges.sum, to_z-of_z c.ranges.count, to_z-of_z st.scaled, to_z-of_z st.divided, away, to_z-of_z st.step, to_z-of_z st.stepped)
    (sym (rw told at st.done))

pub returns-else-next_taken : goal.returns-else-next_taken
returns-else-next_taken c =
    let st = steps _ _ c.requires in
    let rest =
    rw (to_z-of_z c.ranges.sum, to_z-of_z c.ranges.count, to_z-of_z st.scaled, to_z-of_z st.left) at c.unsigned_abs-rest.ensures.value in
    let size = rw (to_z-of_z c.ranges.count) at c.unsigned_abs.ensures.value in
    let taken =
    rw (to_z-of_z c.ranges.sum, to_z-of_z c.ranges.count, to_z-of_z st.scaled, to_z-of_z st.divided, rest, size) at c.next_taken.ensures in
    let told = sym taken ∙ c.if-next_taken.false in
    rw (to_z-of_z c.ranges.sum, to_z-of_z c.ranges.count, to_z-of_z st.scaled, to_z-of_z st.divided) (sym (rw told at st.done))
