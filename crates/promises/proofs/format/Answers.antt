-- `promises::format` meets its contract: `luw_format` promises what a format leaves; accepted it begins a list, refused it is a step.
-- Assumes nothing.
use Rattle.claims.specs.Trace.{formatted}
use Rattle.claims.proofs.Steps.{steps}
use Rattle.promises.proofs.format.Goals as goal

pub returns : goal.returns
returns c =
    let p = c.luw_format.ensures in
    record { as_defined = p; trace = λ z. formatted _ (rw z at p); step = λ n. steps.of_refused_format _ _ _ _ _ _ p n }
