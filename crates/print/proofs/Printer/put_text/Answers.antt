-- `print::Printer::put_text` meets its contract. Assumes nothing.
use Rattle.std.proofs.Common.{refl, arith}
use Rattle.print.proofs.Laws.Puts.{put_part}
use Rattle.print.proofs.Printer.put_text.Goals as goal

pub returns : goal.returns
returns c = record { same_buffer = refl; put = put_part _ _ _ c.requires (omega arith) c.copy_from_slice.ensures.after }
