-- `rule::top_bits::within` meets its contract. Assumes nothing.
use Rattle.std.proofs.Common.{refl, arith}
use Rattle.rule.proofs.Wrapped.{within_clear}
use Rattle.rule.proofs.top_bits.within.Goals as goal

pub returns : goal.returns
returns c = within_clear c.args.x c.args.b _ _ (omega arith) c.requires refl (omega arith) (omega arith)
