-- `text::field::instant` meets its contract: a law for each way out. Assumes nothing.
use Rattle.std.proofs.Common.{◌∙◌}
use Rattle.text.proofs.Laws.Lines.{no_instant, fitting_instant}
use Rattle.text.proofs.field.instant.Goals as goal

pub returns-in_err-number : goal.returns-in_err-number
returns-in_err-number c = c.from_residual.ensures ∙ no_instant _ c.in_err-number.ensures.value

pub returns : goal.returns
returns c = c.ok.ensures.value ∙ fitting_instant _ _ c.in_ok-number.ensures.value c.try_from.ensures
