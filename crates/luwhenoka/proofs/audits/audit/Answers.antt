-- `luwhenoka::audits::audit` meets its contract: a law for each way out. Assumes nothing.
use Rattle.std.proofs.Common.{sym, refl}
use Rattle.calls.specs.Refusals.{first}
use Rattle.calls.proofs.Numbers.{refused_not_accepted, handed_on}
use Rattle.luwhenoka.proofs.Laws.Audits.{input_whole, audit_early, audit_late}
use Rattle.luwhenoka.proofs.audits.audit.Goals as goal

pub returns-in_err-check_input : goal.returns-in_err-check_input
returns-in_err-check_input c =
    let refusal = c.in_err-check_input.field-0.0 in
    rw (handed_on c.from_residual.result refusal c.from_residual.ensures)
    (audit_early _ _ _ c.in_err-check_input.ensures.status (refused_not_accepted refusal) c.check_input.ensures.cleared)

pub sound-requires : goal.sound-requires
sound-requires c = (c.requires.0, c.requires.1, input_whole _ _ c.args.scratch.now c.in_ok-check_input.ensures.status)

pub returns-then-not-sound : goal.returns-then-not-sound
unfolding first
returns-then-not-sound c =
    audit_late _ _ _ c.in_ok-check_input.ensures.status (rw (sym c.sound.ensures, c.if-not-sound.true) refl) c.check_input.ensures.cleared

pub returns : goal.returns
unfolding first
returns c =
    audit_late _ _ _ c.in_ok-check_input.ensures.status (rw (sym c.sound.ensures, c.if-not-sound.false) refl) c.check_input.ensures.cleared
