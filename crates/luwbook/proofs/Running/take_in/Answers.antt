-- `luwbook::Running::take_in` meets its contract: a law for each answer of a read. Assumes nothing.
use Rattle.std.proofs.Common.{refl, rules}
use Rattle.luwbook.proofs.Laws.{takes_failed, takes_ended, takes_more}
use Rattle.luwbook.proofs.Running.take_in.Goals as goal

pub returns-in_default : goal.returns-in_default
returns-in_default c = takes_failed _ _ _ _ c.in_default.is refl

pub returns-in_err-run_some : goal.returns-in_err-run_some
returns-in_err-run_some c =
    takes_more _ _ _ _ _ c.in-Ok.is c.if-n-gt0.true (search rules) (search rules) c.in_err-run_some.ensures

pub returns-in_ok-run_some : goal.returns-in_ok-run_some
returns-in_ok-run_some c = takes_more _ _ _ _ _ c.in-Ok.is c.if-n-gt0.true refl refl c.in_ok-run_some.ensures

pub returns-else-n-gt0 : goal.returns-else-n-gt0
returns-else-n-gt0 c = takes_ended _ _ _ _ c.in-Ok.is c.if-n-gt0.false refl
