-- The laws of a free page's bytes, which are those of a tree page with no entry, and of a page that was never used. Assumes nothing.
use mathlib.Core.Path.{◌≡◌, refl, sym, ap, ◌∙◌}
use mathlib.Core.Bool.{true, ◌&&◌, and-eq-true_iff}
use mathlib.Core.List.{List, []}
use Prim.Native.Nat.{ℕ, ◌+◌, ◌-◌, ◌^◌, ◌<◌}
use native.Mathlib.Omega.{arith}
use lib.ListN.{length}
use lib.Dec.{eqb, lit<}
use borrow.Author.Tests.{eqb-true, eq-eqb}
use Rattle.fields.specs.Bytes.{Bytes, part, unused, all_are}
use Rattle.fields.specs.Numbers.{u32_bytes}
use Rattle.fields.proofs.Laws.Parts.{length_part, part_whole}
use Rattle.fields.proofs.Laws.Offsets.{u32}
use Rattle.fields.proofs.Laws.Tests.{length_unused, all_are_unused, unused_all_are}
use Rattle.page.specs.Layout.{page_size, level_of, free_level, next_of, free_bytes, free_ok, never_used_ok}
use Rattle.page.proofs.Laws.Pieces.{part_pieces, part_third}
use Rattle.page.proofs.Laws.Trees.{page_bytes, page_none, bytes_page, length_page, page_level, page_number}

-- ---- a free page

module _ (half next : ℕ) where
  free_page : free_bytes half next ≡ page_bytes half free_level next []
  unfolding free_bytes
  free_page = sym (page_none half free_level next)

  pub bytes_free : Bytes (free_bytes half next)
  bytes_free = rw free_page (bytes_page half free_level next [])

  pub length_free : length (free_bytes half next) ≡ page_size half
  length_free = ap length free_page ∙ length_page half free_level next [] (omega arith)

  pub level_of_free : level_of (free_bytes half next) ≡ free_level
  unfolding level_of
  level_of_free =
      u32.at_bytes (free_bytes half next) 0 free_level
      (ap (λ s. part s 0 4) free_page ∙ page_level half free_level next [] (omega arith)) (lit< tt)

  pub next_of_free : next < 2 ^ 32 → next_of (free_bytes half next) ≡ next
  unfolding next_of
  next_of_free w =
      u32.at_bytes (free_bytes half next) 4 next (ap (λ s. part s 4 4) free_page ∙ page_number half free_level next [] (omega arith)) w

  pub free_ok_free : free_ok half (free_bytes half next) ≡ true
  unfolding free_ok free_bytes
  free_ok_free =
      let m : ℕ = page_size half - 8 in
      let e : part (free_bytes half next) 8 m ≡ unused m
      = part_third (u32_bytes free_level) (u32_bytes next) (unused m) 8 0 m
      (λ j. u32.length_bytes free_level j + u32.length_bytes next j) ∙ part_whole (unused m) m (length_unused m) in
      λ j. eq-eqb (level_of (free_bytes half next)) free_level level_of_free j && (ap (all_are 255) e ∙ all_are_unused m) j

-- a free page is its next page's number
pub free_again : (half : ℕ) (s : List ℕ) → length s ≡ page_size half → Bytes s → free_ok half s ≡ true → free_bytes half (next_of s) ≡ s
unfolding free_ok free_bytes level_of next_of
free_again half s l b ok =
    let m : ℕ = page_size half - 8 in
    let k : (eqb (level_of s) free_level ≡ true)
    × (all_are 255 (part s 8 m) ≡ true) = (and-eq-true_iff (eqb (level_of s) free_level) (all_are 255 (part s 8 m))).0 ok in
    let e : part s 8 m ≡ unused m = unused_all_are m (part s 8 m) (length_part s 8 m (omega arith)) k.1 in
    part_pieces s 0 4 4 (4 + m) refl (ap u32_bytes (sym (eqb-true (level_of s) free_level k.0)) ∙ u32.bytes_at s 0 b (omega arith))
    (part_pieces s 4 4 8 m refl (u32.bytes_at s 4 b (omega arith)) (sym e))
    ∙ part_whole s (4 + (4 + m)) (omega arith)

-- ---- a page that was never used

pub never_used_ok_unused : (n : ℕ) → never_used_ok (unused n) ≡ true
unfolding never_used_ok
never_used_ok_unused n = all_are_unused n

pub unused_again : (n : ℕ) (s : List ℕ) → length s ≡ n → never_used_ok s ≡ true → s ≡ unused n
unfolding never_used_ok
unused_again n s l ok = unused_all_are n s l ok
