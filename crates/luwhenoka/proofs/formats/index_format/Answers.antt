-- `luwhenoka::formats::index_format` meets its contract: by half the capacity that it takes. Assumes nothing.
use Rattle.std.proofs.Common.{◌/◌, cond, sym, ap, refl, ◌∙◌}
use Rattle.page.proofs.Laws.Capacities.{capacity_is}
use Rattle.calls.specs.Calls.{format}
use Rattle.calls.specs.Index.{index_format}
use Rattle.luwhenoka.proofs.formats.index_format.Goals as goal

pub returns-then-not-capacity_ok : goal.returns-then-not-capacity_ok
unfolding index_format
returns-then-not-capacity_ok c = rw (sym c.capacity_ok.ensures ∙ c.if-not-capacity_ok.true) refl

pub format-requires : goal.format-requires
format-requires c =
    let k = capacity_is (sym c.capacity_ok.ensures ∙ c.if-not-capacity_ok.false) in (k.half_least, k.half_most)

pub returns : goal.returns
unfolding index_format
returns c =
    let args = c.args in
    let k = args.capacity in
    c.format.ensures
    ∙ ap (λ b. cond b (format (k / 2) args.kind args.window k args.img.now) (record { status = 14; image = args.img.now }))
    (sym (sym c.capacity_ok.ensures ∙ c.if-not-capacity_ok.false))
