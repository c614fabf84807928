-- `luwhenoka::audits::check_input` meets its contract: row by row. Assumes nothing.
use Rattle.std.proofs.Common.{sym, ◌∙◌}
use Rattle.luwhenoka.proofs.Laws.Audits.{left_16, left_17, left_clear}
use Rattle.luwhenoka.proofs.audits.check_input.Goals as goal

pub returns-then-not-length_fits : goal.returns-then-not-length_fits
returns-then-not-length_fits c =
    let l = left_16 c.args.half c.args.img.now c.args.scratch.now (sym c.length_fits.ensures ∙ c.if-not-length_fits.true) in
    record { status = l.0; cleared = l.1 }

pub returns-then-not-scratch_ok : goal.returns-then-not-scratch_ok
returns-then-not-scratch_ok c =
    let l = left_17 c.args.half c.args.img.now c.args.scratch.now (sym c.length_fits.ensures ∙ c.if-not-length_fits.false)
    (sym c.scratch_ok.ensures ∙ c.if-not-scratch_ok.true) in
    record { status = l.0; cleared = l.1 }

pub returns : goal.returns
returns c =
    let l = left_clear c.args.half c.args.img.now c.args.scratch.now (sym c.length_fits.ensures ∙ c.if-not-length_fits.false)
    (sym c.scratch_ok.ensures ∙ c.if-not-scratch_ok.false) in
    record { status = l.0; cleared = c.clear_scratch.ensures ∙ l.1 }
