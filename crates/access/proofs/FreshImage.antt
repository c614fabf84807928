-- The bytes of a fresh image: the head, the root, and unused bytes. Assumes nothing.
use mathlib.Core.Path.{◌≡◌, refl, sym, ap, ◌∙◌}
use mathlib.Core.List.{List, [], ◌∷◌, ◌++◌, append_assoc, append-nil}
use Prim.Native.Nat.{ℕ, zero, suc, ◌+◌, ◌-◌, ◌*◌, ◌≤◌, ◌<◌}
use native.Mathlib.Nat.{mul-zero, mul-suc}
use native.Mathlib.Omega.{arith}
use lib.ListN.{length, length-append}
use borrow.Author.Tests.{ne_eqb}
use Rattle.rule.specs.Pairs.{none}
use Rattle.fields.specs.Bytes.{patch, unused}
use Rattle.fields.proofs.Laws.Parts.{patch_whole, patch_patch_next}
use Rattle.fields.proofs.Laws.Tests.{length_unused, unused_add}
use Rattle.page.specs.Entries.{entry}
use Rattle.page.specs.Layout.{page_size, tree_bytes, head_bytes}
use Rattle.lists.specs.Lists.{listed, concat_map}
use Rattle.lists.proofs.Concat.{concat_map_append, concat_map_one}
use Rattle.page.proofs.Laws.Heads.{length_head}
use Rattle.page.proofs.Laws.Trees.{length_tree}
use Rattle.image.specs.Images.{cell_bytes, image_bytes, fresh_page, fresh}

-- "root 1, a leaf with entry 0, (0, 0)"
abbrev pub root_bytes : ℕ → List ℕ
root_bytes half = tree_bytes half 0 (entry 0 none 0 ∷ [])

module _ (half : ℕ) where
  -- the bytes of page p + 1
  abbrev behind_head : ℕ → List ℕ
  behind_head p = cell_bytes half (fresh_page (suc p))

  root_first : behind_head 0 ≡ root_bytes half
  unfolding cell_bytes fresh_page
  root_first = refl

  others_unused : (p : ℕ) → behind_head (suc p) ≡ unused (page_size half)
  unfolding cell_bytes fresh_page
  others_unused p = rw (ne_eqb (suc (suc p)) 1 (λ e. omega arith))

  -- the root, and m pages that were never used
  pages_behind : (m : ℕ) → concat_map behind_head (listed (suc m) (λ p. p)) ≡ root_bytes half ++ unused (page_size half * m)
  unfolding listed
  pages_behind zero =
      concat_map_one behind_head 0 ∙ root_first ∙ sym (append-nil (root_bytes half)) ∙ ap (λ l. root_bytes half ++ l) none_left
    where
      none_left : [] ≡ unused (page_size half * 0)
      none_left = rw (mul-zero (page_size half)) (unfold unused in refl)
  pages_behind (suc m) =
      let k : ℕ = page_size half in
      concat_map_append behind_head (listed (suc m) (λ p. p)) (suc m ∷ [])
      ∙ (λ j. pages_behind m j ++ (concat_map_one behind_head (suc m) ∙ others_unused m) j)
      ∙ append_assoc (root_bytes half) (unused (k * m)) (unused k)
      ∙ ap (λ l. root_bytes half ++ l) (sym (unused_add (k * m) k) ∙ ap unused (sym (mul-suc k m)))

  module _ (kind window field n : ℕ) where
    abbrev fresh_head : List ℕ
    fresh_head = head_bytes half (fresh n kind window field).head

    fresh_bytes : (m : ℕ) → n - 1 ≡ suc m
        → image_bytes half (fresh n kind window field) ≡ fresh_head ++ (root_bytes half ++ unused (page_size half * m))
    unfolding image_bytes fresh
    fresh_bytes m e = ap (λ k. fresh_head ++ concat_map behind_head (listed k (λ p. p))) e ∙ ap (λ l. fresh_head ++ l) (pages_behind m)

    -- head, root and unused bytes, each step by what a call ensures: one behind another they are the whole image
    pub fresh_written : 0 < half → 2 ≤ n → (s : List ℕ) {t u v : List ℕ} → length s ≡ page_size half * n
        → t ≡ patch s 0 fresh_head → u ≡ patch t (page_size half) (root_bytes half)
        → v ≡ patch u (2 * page_size half) (unused (length s - 2 * page_size half)) → v ≡ image_bytes half (fresh n kind window field)
    fresh_written some least s {u = u} size head root rest =
        let k : ℕ = page_size half in
        let m : ℕ = n - 2 in
        let a : List ℕ = fresh_head in
        let b : List ℕ = root_bytes half in
        let r : List ℕ = unused (k * m) in
        let la : length a ≡ k = length_head half (fresh n kind window field).head some in
        let lb : length b ≡ k = length_tree half 0 (entry 0 none 0 ∷ []) (omega arith) in
        let lr : length r ≡ k * m = length_unused (k * m) in
        let q : n ≡ suc (suc m) = omega arith in
        let e : length s ≡ k * m + k + k = size ∙ ap (λ i. k * i) q ∙ mul-suc k (suc m) ∙ ap (λ i. i + k) (mul-suc k m) in
        let d : length s - 2 * k ≡ k * m = omega arith in
        rest
        ∙ ap (λ i. patch u (2 * k) (unused i)) d
        ∙ ap (λ l. patch l (2 * k) r) (root ∙ ap (λ l. patch l k b) head ∙ patch_patch_next s 0 a b k (omega arith) (omega arith))
        ∙ patch_patch_next s 0 (a ++ b) r (2 * k) (simp length-append (omega arith)) (omega arith)
        ∙ patch_whole s (a ++ b ++ r) (simp length-append (omega arith))
        ∙ append_assoc a b r
        ∙ sym (fresh_bytes m (omega arith))
