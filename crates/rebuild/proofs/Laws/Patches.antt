-- What stands in front of a write. Assumes nothing.
use Prim.Native.Nat.{ℕ, ◌+◌, ◌*◌, ◌≤◌}
use mathlib.Core.Path.{◌≡◌, ap}
use mathlib.Core.List.{List}
use native.Mathlib.Omega.{arith}
use lib.ListN.{length}
use mir.Syntax.{w32, w64}
use mir.Val.{to_z}
use Rattle.rule.specs.Pairs.{none}
use Rattle.fields.specs.Bytes.{part, patch}
use Rattle.fields.specs.Numbers.{num, u32_at, i32_at, i64_at}
use Rattle.fields.proofs.Laws.Parts.{part_patch_before}
use Rattle.page.specs.Entries.{entry}
use Rattle.page.specs.Layout.{page_size, start_at}
use Rattle.image.specs.Images.{page_at}
use Rattle.rebuild.specs.Levels.{run_entry, page_entry}

module _ (s : List ℕ) (o : ℕ) (bs : List ℕ) (h : o ≤ length s) where
  -- neither a run that is listed there changes nor a page
  pub run_before : (i : ℕ) → 16 * i + 16 ≤ o → run_entry (patch s o bs) i ≡ run_entry s i
  unfolding run_entry u32_at i32_at i64_at
  run_before i l =
      let start : part (patch s o bs) (16 * i) 4 ≡ part s (16 * i) 4 = part_patch_before s o bs h (16 * i) 4 (omega arith) in
      let count : part (patch s o bs) (16 * i + 4) 4 ≡ part s (16 * i + 4) 4 = part_patch_before s o bs h (16 * i + 4) 4 (omega arith) in
      let sum : part (patch s o bs) (16 * i + 8) 8 ≡ part s (16 * i + 8) 8 = part_patch_before s o bs h (16 * i + 8) 8 (omega arith) in
      λ j. entry (num (start j)) (record { sum = to_z w64 (num (sum j)); count = to_z w32 (num (count j)) }) 0

  page_before : (half p : ℕ) → page_size half * p + page_size half ≤ o → page_at half (patch s o bs) p ≡ page_at half s p
  unfolding page_at
  page_before half p l = part_patch_before s o bs h (page_size half * p) (page_size half) l

  -- nor the entry that leads to such a page
  pub lead_before : (half p : ℕ) → page_size half * p + page_size half ≤ o → page_entry half (patch s o bs) p ≡ page_entry half s p
  unfolding page_entry
  lead_before half p l = ap (λ u. entry (start_at u 0) none p) (page_before half p l)
