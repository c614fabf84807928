-- `page::heads::write_numbers` meets its contract: ten numbers, one after the other, are one patch. Assumes nothing.
use Rattle.std.proofs.Common.{ℕ, List, [], ◌∷◌, refl, arith}
use Rattle.page.proofs.Laws.Puts.{put_first, put_next}
use Rattle.page.proofs.heads.write_numbers.Goals as goal

pub returns : goal.returns
returns c =
    let s : List ℕ = c.args.s.now in
    let h = c.args.h in
    let n0 = put_first s 0 h.pages c.write_at.ensures in
    let n1 = put_next s 0 (h.pages ∷ []) h.height 4 refl (omega arith) n0 c.write_at-2.ensures in
    let n2 = put_next s 0 (h.pages ∷ h.height ∷ []) h.root 8 refl (omega arith) n1 c.write_at-3.ensures in
    let n3 = put_next s 0 (h.pages ∷ h.height ∷ h.root ∷ []) h.free 12 refl (omega arith) n2 c.write_at-4.ensures in
    let n4 = put_next s 0 (h.pages ∷ h.height ∷ h.root ∷ h.free ∷ []) h.chain 16 refl (omega arith) n3 c.write_at-5.ensures in
    let n5 = put_next s 0 (h.pages ∷ h.height ∷ h.root ∷ h.free ∷ h.chain ∷ []) h.mark 20 refl (omega arith) n4 c.write_at-6.ensures in
    let n6 = put_next s 0 (h.pages ∷ h.height ∷ h.root ∷ h.free ∷ h.chain ∷ h.mark ∷ []) h.kind 24 refl (omega arith) n5 c.write_at-7.ensures in
    let n7 = put_next s 0 (h.pages ∷ h.height ∷ h.root ∷ h.free ∷ h.chain ∷ h.mark ∷ h.kind ∷ []) h.window 28 refl (omega arith) n6 c.write_at-8.ensures in
    let n8 = put_next s 0 (h.pages ∷ h.height ∷ h.root ∷ h.free ∷ h.chain ∷ h.mark ∷ h.kind ∷ h.window ∷ []) h.changes 32 refl (omega arith) n7 c.write_at-9.ensures in
    put_next s 0 (h.pages ∷ h.height ∷ h.root ∷ h.free ∷ h.chain ∷ h.mark ∷ h.kind ∷ h.window ∷ h.changes ∷ []) h.capacity 36 refl (omega arith) n8 c.write_at-10.ensures
