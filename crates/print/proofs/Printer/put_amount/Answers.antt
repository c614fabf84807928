-- `print::Printer::put_amount` meets its contract. Assumes nothing.
use Rattle.std.proofs.Common.{arith, ap, ◌++◌, ◌∷◌, [], to_z-of_z}
use Rattle.calls.specs.Program.{integer}
use Rattle.print.proofs.Laws.Puts.{prints_as, prints_then, prints_length}
use Rattle.print.proofs.Laws.Numbers.{behind_integer}
use Rattle.print.proofs.Printer.put_amount.Goals as goal

pub put_byte-requires : goal.put_byte-requires
put_byte-requires c = omega (arith, behind_integer, prints_length)

pub returns : goal.returns
returns c = prints_as (ap (λ z. integer z ++ (32 ∷ [])) (to_z-of_z c.ranges.z)) (prints_then c.put_integer.ensures c.put_byte.ensures)
