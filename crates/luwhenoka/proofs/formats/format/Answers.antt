-- `luwhenoka::formats::format` meets its contract: a law for each way out. Assumes nothing.
use Rattle.std.proofs.Common.{◌&&◌, sym, ap, ◌∙◌}
use Rattle.luwhenoka.proofs.Laws.Formats.{format_16, format_14, format_0}
use Rattle.luwhenoka.proofs.formats.format.Goals as goal

pub returns-then-not-length_fits : goal.returns-then-not-length_fits
returns-then-not-length_fits c = format_16 _ _ _ _ _ (sym c.length_fits.ensures ∙ c.if-not-length_fits.true)

pub returns-then-not-named : goal.returns-then-not-named
returns-then-not-named c =
    format_14 _ _ _ _ _ (sym c.length_fits.ensures ∙ c.if-not-length_fits.false)
    ((λ j. sym c.kind_ok.ensures j && sym c.window_ok.ensures j) ∙ c.if-not-named.true)

pub returns : goal.returns
returns c =
    ap (λ s. record { status = 0; image = s }) c.write_fresh.ensures
    ∙ format_0 _ _ _ _ _ (sym c.length_fits.ensures ∙ c.if-not-length_fits.false)
    ((λ j. sym c.kind_ok.ensures j && sym c.window_ok.ensures j) ∙ c.if-not-named.false)
