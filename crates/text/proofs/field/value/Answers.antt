-- `text::field::value` meets its contract: a law for each way out. Assumes nothing.
use Rattle.std.proofs.Common.{rules, arith}
use mir.Syntax.{w64}
use mir.ValLaws.{to_z_pos}
use Rattle.text.proofs.Laws.Lines.{minus_none, minus_some, plain_none, plain_some, opposite_is}
use Rattle.text.proofs.field.value.Goals as goal

pub returns-in_err-number-in-Some : goal.returns-in_err-number-in-Some
returns-in_err-number-in-Some c =
    let minus = c.in-Some.ensures.cases in
    let h = minus_none c.args.v.now minus.0 minus.1 c.in_err-number-in-Some.ensures.value in
    search (rules, h)

pub returns-in_err-number-in-None : goal.returns-in_err-number-in-None
returns-in_err-number-in-None c =
    let h = plain_none c.args.v.now c.in-None.ensures.cases c.in_err-number-in-None.ensures.value in
    search (rules, h)

pub returns-in_ok-number-in-Some : goal.returns-in_ok-number-in-Some
returns-in_ok-number-in-Some c =
    let minus = c.in-Some.ensures.cases in
    let number = c.in_ok-number-in-Some.ensures in
    minus_some c.args.v.now minus.0 minus.1 number.value (opposite_is _ number.small)

pub returns-in_ok-number-in-None : goal.returns-in_ok-number-in-None
returns-in_ok-number-in-None c =
    let number = c.in_ok-number-in-None.ensures in
    plain_some c.args.v.now c.in-None.ensures.cases number.value (to_z_pos w64 _ (omega (arith, number.small)))
