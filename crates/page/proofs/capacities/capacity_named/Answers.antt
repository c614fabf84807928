-- `page::capacities::capacity_named` meets its contract: by the test. Assumes nothing.
use Rattle.std.proofs.Common.{eq-eqb, ne_eqb}
use Rattle.page.specs.Layout.{capacity_named}
use Rattle.page.proofs.capacities.capacity_named.Goals as goal

pub returns-then-field-eq-NO_FIELD : goal.returns-then-field-eq-NO_FIELD
unfolding capacity_named
returns-then-field-eq-NO_FIELD c = rw (eq-eqb _ _ c.if-field-eq-NO_FIELD.true)

pub returns-else-field-eq-NO_FIELD : goal.returns-else-field-eq-NO_FIELD
unfolding capacity_named
returns-else-field-eq-NO_FIELD c = rw (ne_eqb _ _ c.if-field-eq-NO_FIELD.false)
