-- `promises::audit` meets its contract: `luw_audit` promises the answer, and an image that is lent for reading is kept. Assumes nothing.
use Rattle.claims.specs.Trace.{kept}
use Rattle.promises.proofs.AfterLists.{audit_as}
use Rattle.promises.proofs.audit.Goals as goal

pub returns : goal.returns
returns c =
    record { as_defined = c.luw_audit.ensures; step = kept; after_lists = audit_as _ _ _ _ c.luw_audit.ensures }
