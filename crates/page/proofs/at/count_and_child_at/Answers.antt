-- `page::at::count_and_child_at` meets its contract: eight bytes are the count's four and the child's. Assumes nothing.
use Rattle.std.proofs.Common.{◌≡◌, ◌+◌, ◌*◌, ◌/◌, ◌%◌, ◌^◌, ◌<◌, ap, ◌∙◌, arith, to_z, w32}
use Rattle.fields.specs.Bytes.{part}
use Rattle.fields.specs.Numbers.{num, u32_at, i32_at}
use Rattle.fields.proofs.Laws.Digits.{bytes_of}
use Rattle.fields.proofs.Laws.Offsets.{u32, num_part_add}
use Rattle.page.specs.Layout.{entry_offset, pair_at, child_at}
use Rattle.page.proofs.at.count_and_child_at.Goals as goal

pub returns : goal.returns
unfolding pair_at child_at u32_at i32_at
returns c =
    let s = c.args.s.now in
    let o = entry_offset c.args.half c.args.i + 8 in
    let r = c.read_at.result in
    let low : num (part s o 4) < 2 ^ 32 = u32.at_fits s o (bytes_of s c.type_inv.s) in
    let both : r ≡ num (part s o 4) + 2 ^ 32 * num (part s (o + 4) 4) =
    c.read_at.ensures ∙ ap (λ p. num (part s (p + 8) 8)) c.entry_offset.ensures ∙ num_part_add s o 4 4 (omega arith) in
    let count : r % 2 ^ 32 ≡ num (part s o 4) = omega arith in
    let child : r / 2 ^ 32 ≡ num (part s (o + 4) 4) = omega arith in
    let next : o + 4 ≡ entry_offset c.args.half c.args.i + 12 = omega arith in
    (ap (to_z w32) count, child ∙ ap (λ p. num (part s p 4)) next)
