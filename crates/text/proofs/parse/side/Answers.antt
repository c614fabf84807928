-- `text::parse::side` meets its contract: a law for each way out. Assumes nothing.
use Rattle.std.proofs.Common.{arith, sym}
use Rattle.text.proofs.Laws.Lines.{sign_alone, sign_plus, sign_minus, sign_other}
use Rattle.text.proofs.parse.side.Goals as goal

pub returns-in-43 : goal.returns-in-43
returns-in-43 c = grind (arith, sign_plus)

pub returns-in-45 : goal.returns-in-45
returns-in-45 c = grind (arith, sign_minus)

pub returns-in_default : goal.returns-in_default
returns-in_default c = sym (sign_alone _ (λ e. omega arith))

pub returns-in_default-2 : goal.returns-in_default-2
returns-in_default-2 c = grind (arith, sign_other)

pub returns-in_default-3 : goal.returns-in_default-3
returns-in_default-3 c = sym (sign_alone _ (λ e. omega arith))
