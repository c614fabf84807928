-- `luwhenoka::rebuilds::rebuild` meets its contract: a law for each way out. Assumes nothing.
use Rattle.std.proofs.Common.{◌≡◌, true, not, ℕ, Bool, sym, refl, ◌∙◌, [], ◌∷◌}
use Rattle.calls.specs.Refusals.{first}
use Rattle.calls.proofs.Numbers.{refused_not_accepted, handed_on}
use Rattle.luwhenoka.proofs.Laws.Audits.{input_whole}
use Rattle.luwhenoka.proofs.Laws.Rebuilds.{rebuild_early, rebuild_late}
use Rattle.luwhenoka.proofs.rebuilds.rebuild.Goals as goal

pub returns-in_err-check_input : goal.returns-in_err-check_input
returns-in_err-check_input c =
    let refusal = c.in_err-check_input.field-0.0 in
    rw (handed_on c.from_residual.result refusal c.from_residual.ensures)
    (rebuild_early _ _ _ _ c.in_err-check_input.ensures.status (refused_not_accepted refusal) c.check_input.ensures.cleared)

pub sound_before-requires : goal.sound_before-requires
sound_before-requires c = (c.requires.0, c.requires.1, input_whole _ _ c.args.scratch.now c.in_ok-check_input.ensures.status)

pub returns-then-not-sound_before : goal.returns-then-not-sound_before
unfolding first
returns-then-not-sound_before c =
    rebuild_late _ _ _ _ c.in_ok-check_input.ensures.status (rw (sym c.sound_before.ensures, c.if-not-sound_before.true) refl) refl
    c.check_input.ensures.cleared

pub returns-then-not-length_fits : goal.returns-then-not-length_fits
unfolding first
returns-then-not-length_fits c =
    rebuild_late _ _ _ _ c.in_ok-check_input.ensures.status
    (rw (sym c.sound_before.ensures, c.if-not-sound_before.false, sym c.length_fits.ensures, c.if-not-length_fits.true) refl) refl
    c.check_input.ensures.cleared

pub fill_target-requires-clause-sound_source : goal.fill_target-requires-clause-sound_source
fill_target-requires-clause-sound_source c =
    (sym c.sound_before.ensures ∙ c.if-not-sound_before.false, sym c.length_fits.ensures ∙ c.if-not-length_fits.false)

-- behind the rows that it passed, the status is that of the last row
last : (sound whole : Bool) {n : ℕ} (small : Bool) → sound ≡ true → whole ≡ true → n ≡ first ((24, small) ∷ [])
    → n ≡ first ((21, not sound) ∷ (16, not whole) ∷ (24, small) ∷ [])
unfolding first
last sound whole small a b e = rw (a, b) e

pub returns : goal.returns
returns c =
    rebuild_late _ _ _ _ c.in_ok-check_input.ensures.status
    (last _ _ _ (sym c.sound_before.ensures ∙ c.if-not-sound_before.false) (sym c.length_fits.ensures ∙ c.if-not-length_fits.false)
    c.fill_target.ensures.told)
    c.fill_target.ensures.leaves c.check_input.ensures.cleared
