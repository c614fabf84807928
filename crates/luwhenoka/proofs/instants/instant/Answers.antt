-- `luwhenoka::instants::instant` meets its contract: a law for each way out. Assumes nothing.
use Rattle.std.proofs.Common.{ℕ, ◌≡◌, ◌<◌, List, Option, Some, None, true, sym, ap, ◌∙◌, arith}
use Rattle.rule.specs.Time.{END}
use Rattle.page.specs.declared.Head.{Head}
use Rattle.image.specs.Images.{length_ok}
use Rattle.image.specs.Instant.{look_up}
use Rattle.calls.specs.Calls.{head_ok, instant}
use Rattle.access.specs.Access.{OpenImage}
use Rattle.access.proofs.Laws.{opened, shut}
use Rattle.lookup.specs.declared.Holding.{Holding}
use Rattle.lookup.specs.Answers.{lookup_of, found_after}
use Rattle.luwhenoka.specs.Answers.{looked, instant_of}
use Rattle.luwhenoka.proofs.Laws.Judged.{handed_on_none}
use Rattle.luwhenoka.proofs.Laws.Instants.{instant_16, instant_12, instant_head, Passed, instant_21, instant_0}
use Rattle.luwhenoka.proofs.instants.instant.Goals as goal

pub returns-then-not-length_fits : goal.returns-then-not-length_fits
returns-then-not-length_fits c = instant_16 _ _ _ (sym c.length_fits.ensures ∙ c.if-not-length_fits.true)

pub returns-then-t-eq-END : goal.returns-then-t-eq-END
returns-then-t-eq-END c = instant_12 _ _ _ (sym c.length_fits.ensures ∙ c.if-not-length_fits.false) (omega (arith, c.if-t-eq-END.true))

pub returns-in_err-h : goal.returns-in_err-h
unfolding head_ok
returns-in_err-h c =
    let nothing = c.in_err-h.ensures.ok_part in
    ap instant_of (handed_on_none _ _ _ _ c.from_residual.ensures c.in_err-h.ensures.value nothing)
    ∙ instant_head _ _ _ (sym c.length_fits.ensures ∙ c.if-not-length_fits.false) (omega (arith, c.if-t-eq-END.false))
    (shut _ _ (sym nothing ∙ c.open_head.ensures))

pub look_up-requires : goal.look_up-requires
look_up-requires c =
    (omega arith, opened _ _ (sym c.length_fits.ensures ∙ c.if-not-length_fits.false) (sym c.in_ok-h.ensures.ok_part ∙ c.open_head.ensures))

-- length, instant and head fit, where a head was opened
passed : (half t : ℕ) (img : List ℕ) {h : Head} → length_ok half img ≡ true → t < END → OpenImage half img h → Passed half t img
unfolding head_ok
passed _ _ _ fits early opened = record { whole = fits; early = early; headed = opened.fit }

-- by what was found
answered : (half t : ℕ) (img : List ℕ) → Passed half t img → (found : Option Holding) (pages : ℕ) → found_after found pages ≡ look_up half img t
    → looked found pages ≡ instant half t img
answered half t img k (Some x) pages e = instant_0 half t img k e
answered half t img k None pages e = instant_21 half t img k e

pub returns : goal.returns
unfolding lookup_of
returns c =
    let fits = sym c.length_fits.ensures ∙ c.if-not-length_fits.false in
    let head = opened _ _ fits (sym c.in_ok-h.ensures.ok_part ∙ c.open_head.ensures) in
    answered _ _ _ (passed _ _ _ fits (omega (arith, c.if-t-eq-END.false)) head) c.look_up.result.found c.look_up.result.pages c.look_up.ensures
