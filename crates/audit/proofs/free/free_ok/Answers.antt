-- `audit::free::free_ok` meets its contract. Assumes nothing.
use Rattle.std.proofs.Common.{◌≡◌, ◌*◌, ◌-◌, ◌/◌, ◌&&◌, eqb, ap, ap₂, ◌∙◌, arith}
use Rattle.fields.specs.Bytes.{part, all_are}
use Rattle.page.specs.Layout.{page_size, free_ok}
use Rattle.audit.proofs.free.free_ok.Goals as goal

pub returns : goal.returns
unfolding free_ok
returns c =
    let s = c.args.s.now in
    let whole : 8 * ((c.page_size.result - 8) / 8) ≡ page_size c.args.half - 8 = omega (arith, c.page_size.ensures) in
    ap₂ ◌&&◌ (ap (λ l. eqb l 255) c.level_of.ensures) (c.words_ff.ensures ∙ ap (λ k. all_are 255 (part s 8 k)) whole)
