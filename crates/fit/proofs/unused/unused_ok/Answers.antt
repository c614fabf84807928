-- `fit::unused::unused_ok` meets its contract: two words of eight are an entry. Assumes nothing.
use Rattle.std.proofs.Common.{◌≡◌, ◌-◌, ◌*◌, ◌&&◌, ap, ◌∙◌, ap₂, arith}
use Rattle.fields.specs.Bytes.{part, all_are}
use Rattle.page.specs.Layout.{capacity, start_offset, entry_offset, unused_ok}
use Rattle.fit.proofs.unused.unused_ok.Goals as goal

pub returns : goal.returns
unfolding unused_ok
returns c =
    let s = c.args.s.now in
    let half = c.args.half in
    let n = c.args.n in
    let past : c.capacity.result - n ≡ capacity half - n = ap (λ k. k - n) c.capacity.ensures in
    let words : 8 * (2 * (c.capacity.result - n)) ≡ 16 * (capacity half - n) = omega (arith, past) in
    ap₂ ◌&&◌ c.words_ff.ensures
    (ap₂ ◌&&◌ (c.all_ff.ensures ∙ (λ j. all_are 255 (part s (c.start_offset.ensures j) (4 * past j))))
    (c.words_ff-2.ensures ∙ (λ j. all_are 255 (part s (c.entry_offset.ensures j) (words j)))))
    ∙ ap (λ n. all_are 255 (part s 8 24)
    && (all_are 255 (part s (start_offset n) (4 * (capacity half - n)))
    && all_are 255 (part s (entry_offset half n) (16 * (capacity half - n))))) c.requires.len
