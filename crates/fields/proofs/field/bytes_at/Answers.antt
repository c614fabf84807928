-- `fields::field::bytes_at` meets its contract: what was lent is the part, and all of it is taken. Assumes nothing.
use Rattle.std.proofs.Common.{◌≡◌, ℕ, ◌+◌, ◌≤◌, List, length, take, drop, sym, ap, ◌∙◌, arith}
use Rattle.std.proofs.Math.Seq.{take-length}
use Rattle.fields.specs.Bytes.{part}
use Rattle.fields.proofs.Laws.Lent.{lent_part}
use Rattle.fields.proofs.Laws.Parts.{length_part}
use Rattle.fields.proofs.field.bytes_at.Goals as goal

whole : (s : List ℕ) (o n : ℕ) → o + n ≤ length s → take n (part s o n) ≡ part s o n
whole s o n h = ap (λ k. take k (part s o n)) (sym (length_part s o n h)) ∙ take-length (part s o n)

pub returns : goal.returns
returns g c =
    let s = c.args.s.now in
    let o = c.args.o in
    let n = g.row.N in
    let chunk = rw c.unwrap.ensures at c.first_chunk.ensures.cases in
    chunk.same ∙ ap (take n) (lent_part s o (o + n) n (omega arith)) ∙ whole s o n c.requires
