-- `text::parse::parse` meets its contract: a law for each way out. Assumes nothing.
use Rattle.std.proofs.Common.{sym, ap, ◌∙◌, rules, w64, SFits, to_z-of_z, Some}
use Rattle.text.specs.Reading.{line_of}
use Rattle.text.proofs.Laws.Lines.{unsigned, without_value, without_start, without_end, booked}
use Rattle.text.proofs.parse.parse.Goals as goal

pub returns-in_err-sign : goal.returns-in_err-sign
unfolding line_of
returns-in_err-sign c = ap line_of c.from_residual.ensures ∙ sym c.in_err-sign.ensures

pub returns-in_err-side : goal.returns-in_err-side
unfolding line_of
returns-in_err-side c =
    ap line_of c.from_residual-in_err-side.ensures ∙ sym (c.in_ok-sign.ensures ∙ unsigned _ _ _ _ (sym c.in_err-side.ensures))

pub returns-in_err-value : goal.returns-in_err-value
unfolding line_of
returns-in_err-value c =
    ap line_of c.from_residual-in_err-value.ensures
    ∙ sym (c.in_ok-sign.ensures ∙ without_value _ _ _ _ (sym c.in_ok-side.ensures) (sym c.in_err-value.ensures))

pub returns-in_err-instant : goal.returns-in_err-instant
unfolding line_of
returns-in_err-instant c =
    ap line_of c.from_residual-in_err-instant.ensures
    ∙ sym (c.in_ok-sign.ensures ∙ without_start _ _ _ _ (sym c.in_ok-side.ensures) (sym c.in_err-instant.ensures))

pub returns-in_err-instant-2 : goal.returns-in_err-instant-2
unfolding line_of
returns-in_err-instant-2 c =
    ap line_of c.from_residual-in_err-instant-2.ensures
    ∙ sym (c.in_ok-sign.ensures ∙ without_end _ _ _ _ (sym c.in_ok-side.ensures) (sym c.in_err-instant-2.ensures))

pub returns : goal.returns
returns c =
    let fits : SFits w64 c.in_ok-value.field-0 = search rules in
    sym (c.in_ok-sign.ensures
    ∙ booked _ _ _ _ (sym c.in_ok-side.ensures) (sym (ap Some (to_z-of_z fits) ∙ c.in_ok-value.ensures)) (sym c.in_ok-instant.ensures)
    (sym c.in_ok-instant-2.ensures))
