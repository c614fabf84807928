-- `print::Printer::put_byte` meets its contract. Assumes nothing.
use Rattle.std.proofs.Common.{refl}
use Rattle.print.proofs.Laws.Puts.{put_one}
use Rattle.print.proofs.Printer.put_byte.Goals as goal

pub returns : goal.returns
returns c = record { same_buffer = refl; put = put_one _ _ _ c.requires }
