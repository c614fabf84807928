-- `page::slots::set_slot` meets its contract: the numbers in the array of entries are written one after the other, the signed ones as
-- their bits. Assumes nothing.
use Rattle.std.proofs.Common.{◌≡◌, ℕ, ◌+◌, List, length, w32, w64, refl, ap, ◌∙◌, arith}
use Rattle.fields.specs.Bytes.{patch}
use Rattle.fields.specs.Numbers.{u32_bytes, i32_bytes, i64_bytes}
use Rattle.fields.proofs.Laws.Parts.{length_patch}
use Rattle.fields.proofs.Laws.Offsets.{u32}
use Rattle.page.specs.Layout.{start_offset, entry_offset, with_entry}
use Rattle.page.proofs.Laws.Entries.{patch_entry}
use Rattle.page.proofs.Laws.Signed.{result_is}
use Rattle.page.proofs.slots.set_slot.Goals as goal

pub returns : goal.returns
unfolding with_entry
returns c =
    let e = c.args.e in
    let i = c.args.i in
    let o : ℕ = entry_offset c.args.half i in
    let t : List ℕ = c.args.s.now in
    let s : List ℕ = patch t (start_offset i) (u32_bytes e.start) in
    let q = c.entry_offset-o.ensures in
    let sum = result_is w64 {v = e.pair.sum} (omega arith) refl in
    let count = result_is w32 {v = e.pair.count} (omega arith) refl in
    let start : c.write_at.new.s ≡ s = c.write_at.ensures ∙ ap (λ p. patch t p (u32_bytes e.start)) c.start_offset.ensures in
    let f : c.write_at-2.new.s ≡ patch s o (i64_bytes e.pair.sum) = c.write_at-2.ensures ∙ (λ j. patch (start j) (q j) (i64_bytes (sum j))) in
    let g : c.write_at-3.new.s ≡ patch (patch s o (i64_bytes e.pair.sum)) (o + 8) (i32_bytes e.pair.count) =
    c.write_at-3.ensures ∙ (λ j. patch (f j) (q j + 8) (i32_bytes (count j))) in
    let n : length (u32_bytes e.start) ≡ 4 = u32.length_bytes e.start in
    let m : length s ≡ length t = length_patch t (start_offset i) (u32_bytes e.start) (omega arith) in
    c.write_at-4.ensures ∙ (λ j. patch (g j) (q j + 12) (u32_bytes e.child)) ∙ patch_entry s o e (omega arith)
