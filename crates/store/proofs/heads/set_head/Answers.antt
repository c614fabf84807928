-- `set_head` meets its contract: the head's numbers are patched into the image. Assumes nothing.
use Rattle.std.proofs.Common.{arith}
use Rattle.store.proofs.Encoding.{holds_with_head}
use Rattle.store.proofs.heads.set_head.Goals as goal

pub returns : goal.returns
returns c half X h s = holds_with_head h c.args.h s (omega arith) c.write_numbers.ensures
