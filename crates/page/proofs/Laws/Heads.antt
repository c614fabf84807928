-- The laws of the head's bytes: its ten numbers one after the other, the rest unused. Assumes nothing.
use mathlib.Core.Path.{◌≡◌, refl, sym, ap, ◌∙◌}
use mathlib.Core.Bool.{true}
use mathlib.Core.List.{List, [], ◌++◌, append_assoc}
use Prim.Native.Nat.{ℕ, ◌+◌, ◌-◌, ◌*◌, ◌^◌, ◌<◌}
use native.Mathlib.Omega.{arith}
use lib.ListN.{length, get_or, length-append}
use Rattle.fields.specs.Bytes.{Bytes, part, patch, unused, all_are}
use Rattle.fields.specs.Numbers.{u32_at, u32_bytes}
use Rattle.fields.proofs.Laws.Parts.{length_part, part_whole}
use Rattle.fields.proofs.Laws.Digits.{bytes_append, bytes_unused}
use Rattle.fields.proofs.Laws.Offsets.{u32}
use Rattle.fields.proofs.Laws.Tests.{length_unused, all_are_unused, unused_all_are}
use Rattle.page.specs.declared.Head.{Head}
use Rattle.page.specs.Layout.{page_size, head_of, head_numbers, head_bytes}
use Rattle.lists.specs.Lists.{listed, concat_map}
use Rattle.page.specs.Widths.{HeadFits}
use Rattle.page.proofs.Laws.Concat.{bytes_joined, length_joined, part_joined, joined_parts}
use Rattle.page.proofs.Laws.Pieces.{part_pieces, part_last, patch_middle}

module _ (half : ℕ) (h : Head) where
  pub bytes_head : Bytes (head_bytes half h)
  unfolding head_bytes
  bytes_head =
      bytes_append (concat_map u32_bytes (head_numbers h)) (unused (page_size half - 40))
      (bytes_joined u32_bytes u32.bytes_bytes (head_numbers h)) (bytes_unused (page_size half - 40))

  pub length_head : 0 < half → length (head_bytes half h) ≡ page_size half
  unfolding head_bytes
  length_head l =
      let e : length (concat_map u32_bytes (head_numbers h)) ≡ 40 = length_joined u32_bytes 4 u32.length_bytes (head_numbers h) in
      simp (length-append, length_unused) (omega arith)

  pub head_of_head : HeadFits h → head_of (head_bytes half h) ≡ h
  unfolding head_of
  head_of_head w = λ j. record {
    pages = field_at 0 (omega arith) w.pages j;
    height = field_at 1 (omega arith) w.height j;
    root = field_at 2 (omega arith) w.root j;
    free = field_at 3 (omega arith) w.free j;
    chain = field_at 4 (omega arith) w.chain j;
    mark = field_at 5 (omega arith) w.mark j;
    kind = field_at 6 (omega arith) w.kind j;
    window = field_at 7 (omega arith) w.window j;
    changes = field_at 8 (omega arith) w.changes j;
    capacity = field_at 9 (omega arith) w.capacity j;
  }
    where
      field_at : (i : ℕ) → i < 10 → get_or (head_numbers h) i 0 < 2 ^ 32 → u32_at (head_bytes half h) (4 * i) ≡ get_or (head_numbers h) i 0
      field_at i l w =
          u32.at_bytes (head_bytes half h) (4 * i) (get_or (head_numbers h) i 0)
          (unfold head_bytes in part_joined u32_bytes 4 u32.length_bytes (head_numbers h) (unused (page_size half - 40)) 0 i l) w

  -- other numbers are written, and what stands behind them is the same
  pub head_numbered : (g : Head) (t : List ℕ)
      → patch (head_bytes half g ++ t) 0 (concat_map u32_bytes (head_numbers h)) ≡ head_bytes half h ++ t
  unfolding head_bytes
  head_numbered g t =
      let m : ℕ = page_size half - 40 in
      let xs : List ℕ = concat_map u32_bytes (head_numbers g) in
      let ys : List ℕ = concat_map u32_bytes (head_numbers h) in
      let a : length xs ≡ 40 = length_joined u32_bytes 4 u32.length_bytes (head_numbers g) in
      let b : length ys ≡ 40 = length_joined u32_bytes 4 u32.length_bytes (head_numbers h) in
      ap (λ l. patch l 0 ys) (append_assoc xs (unused m) t) ∙ patch_middle [] xs (unused m ++ t) 0 ys refl (b ∙ sym a)
      ∙ sym (append_assoc ys (unused m) t)

  -- the rest of the head, as `head_fit` tests it
  pub head_rest : all_are 255 (part (head_bytes half h) 40 (page_size half - 40)) ≡ true
  unfolding head_bytes
  head_rest =
      let m : ℕ = page_size half - 40 in
      ap (all_are 255)
      (part_last (concat_map u32_bytes (head_numbers h)) (unused m) 40 m (length_joined u32_bytes 4 u32.length_bytes (head_numbers h))
      (length_unused m)) ∙ all_are_unused m

pub head_of_fits : (s : List ℕ) → Bytes s → HeadFits (head_of s)
unfolding head_of
head_of_fits s b = record {
  pages = u32.at_fits s 0 b;
  height = u32.at_fits s 4 b;
  root = u32.at_fits s 8 b;
  free = u32.at_fits s 12 b;
  chain = u32.at_fits s 16 b;
  mark = u32.at_fits s 20 b;
  kind = u32.at_fits s 24 b;
  window = u32.at_fits s 28 b;
  changes = u32.at_fits s 32 b;
  capacity = u32.at_fits s 36 b;
}

-- a head that is read and written again is as it was
pub head_again : (half : ℕ) (s : List ℕ) → 0 < half → length s ≡ page_size half → Bytes s
    → all_are 255 (part s 40 (page_size half - 40)) ≡ true → head_bytes half (head_of s) ≡ s
unfolding head_bytes head_of listed
head_again half s g l b ok =
    let m : ℕ = page_size half - 40 in
    part_pieces s 0 40 40 m refl
    (joined_parts u32_bytes 4 u32.length_bytes s 0 10 (λ i. u32_at s (0 + 4 * i)) (λ i h. u32.bytes_at s (0 + 4 * i) b (omega arith)))
    (sym (unused_all_are m (part s 40 m) (length_part s 40 m (omega arith)) ok))
    ∙ part_whole s (40 + m) (omega arith)
