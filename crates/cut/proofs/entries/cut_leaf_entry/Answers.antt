-- `cut_leaf_entry` meets its contract: t starts the entry, or divides it. Assumes nothing.
use Rattle.std.proofs.Common.{arith}
use Rattle.cut.proofs.Cutting.{leaf_same, leaf_two}
use Rattle.cut.proofs.entries.cut_leaf_entry.Goals as goal

pub returns-then-e-t : goal.returns-then-e-t
returns-then-e-t c = leaf_same c.args.e c.args.t (omega arith)

pub returns-else-e-t : goal.returns-else-e-t
returns-else-e-t c = leaf_two c.args.e c.args.t (λ same. omega arith)
