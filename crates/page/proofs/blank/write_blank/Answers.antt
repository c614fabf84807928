-- `page::blank::write_blank` meets its contract: two numbers and unused bytes, one after the other, are the whole page. Assumes nothing.
use Rattle.std.proofs.Common.{ℕ, ◌-◌, List, [], ◌∷◌, ◌++◌, refl, ap, ◌∙◌, arith}
use Rattle.fields.specs.Bytes.{unused}
use Rattle.fields.specs.Numbers.{u32_bytes}
use Rattle.page.proofs.Laws.Puts.{put_first, put_next, put_rest, joined_two}
use Rattle.page.proofs.blank.write_blank.Goals as goal

pub returns : goal.returns
unfolding unused
returns c =
    let s : List ℕ = c.args.s.now in
    let a = c.args.level in
    let b = c.args.second in
    let n : ℕ = c.page_size.result - 8 in
    put_rest s (a ∷ b ∷ []) 8 n refl (omega arith)
    (put_next s 0 (a ∷ []) b 4 refl (omega arith) (put_first s 0 a c.write_at.ensures) c.write_at-2.ensures) c.fill.ensures
    ∙ joined_two a b (unused n)
    ∙ ap (λ k. u32_bytes a ++ (u32_bytes b ++ unused (k - 8))) c.page_size.ensures
