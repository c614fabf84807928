-- Things of one size one behind another, and the start that a page shows. Assumes nothing.
use Prim.Native.Nat.{ℕ, suc, ◌+◌, ◌-◌, ◌*◌, ◌≤◌, ◌<◌}
use mathlib.Core.Path.{◌≡◌, sym, ap, ◌∙◌}
use mathlib.Core.List.{List, ◌++◌, append_assoc}
use native.Mathlib.Nat.{add-zero, add_comm, mul-suc}
use native.Mathlib.Omega.{arith}
use lib.ListN.{length, length-append, get_or, take, drop}
use lib.Seq.{length-take-le}
use Rattle.lists.specs.Lists.{concat_map, All}
use Rattle.fields.specs.Bytes.{part, patch, unused}
use Rattle.fields.specs.Numbers.{u32_bytes}
use Rattle.fields.proofs.Laws.Parts.{part_append_right}
use Rattle.fields.proofs.Laws.Offsets.{u32}
use Rattle.fields.proofs.Laws.Tests.{length_unused}
use Rattle.page.specs.declared.Entry.{Entry}
use Rattle.page.specs.Entries.{at, no_entry}
use Rattle.page.specs.Layout.{capacity, page_size, start_at, entry_bytes, tree_bytes}
use Rattle.page.proofs.Laws.Concat.{part_sized, part_joined}
use Rattle.page.proofs.Laws.Entries.{start_bytes, length_start_bytes}
use Rattle.page.proofs.Laws.Trees.{bytes_tree, length_tree}

-- ---- things of one size one behind another, written from offset k on

module _ {A : Type 0} (b : A → List ℕ) (k : ℕ) where
  pub patched_sized : {xs : List A} (s : List ℕ) (d : A) (i : ℕ) → All (λ x. length (b x) ≡ k) xs → i < length xs
      → k ≤ length s
      → part (patch s k (concat_map b xs)) (k * suc i) k ≡ b (get_or xs i d)
  unfolding patch
  patched_sized {xs} s d i all h room =
      let l : length (take k s) ≡ k = length-take-le k s room in
      let e : k * suc i ≡ length (take k s) + k * i = mul-suc k i ∙ add_comm (k * i) k ∙ ap (λ n. n + k * i) (sym l) in
      let rest : List ℕ = drop (k + length (concat_map b xs)) s in
      ap (λ o. part (take k s ++ (concat_map b xs ++ rest)) o k) e
      ∙ part_append_right (take k s) (concat_map b xs ++ rest) (k * i) k
      ∙ part_sized b k rest d i all h

-- ---- the start of a page's first entry

module _ (half level : ℕ) (es : List Entry) where
  pub first_start : 1 ≤ half → 1 ≤ length es → length es ≤ capacity half
      → u32_bytes (start_at (tree_bytes half level es) 0) ≡ u32_bytes (at es 0).start
  unfolding start_at tree_bytes
  first_start some one within =
      let s : List ℕ = tree_bytes half level es in
      let top : List ℕ = u32_bytes level ++ (u32_bytes (length es) ++ unused 24) in
      let past : ℕ = capacity half - length es in
      let rest : List ℕ = unused (4 * past) ++ (concat_map entry_bytes es ++ unused (16 * past)) in
      let l : length top ≡ 32 = simp (length-append, u32.length_bytes, length_unused) in
      let n : length s ≡ page_size half = length_tree half level es within in
      let whole : s ≡ top ++ (concat_map start_bytes es ++ rest) = simp append_assoc in
      u32.bytes_at s 32 (bytes_tree half level es) (omega arith)
      ∙ ap (λ t. part t 32 4) whole
      ∙ ap (λ o. part (top ++ (concat_map start_bytes es ++ rest)) o 4) (sym l ∙ sym (add-zero (length top)))
      ∙ part_append_right top (concat_map start_bytes es ++ rest) 0 4
      ∙ part_joined start_bytes 4 length_start_bytes es rest no_entry 0 one
