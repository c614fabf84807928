-- Pieces of one size one behind another: how long they are together, each at its offset, and one of them written. Assumes nothing.
use Prim.Native.Nat.{ℕ, zero, suc, ◌+◌, ◌*◌, ◌<◌}
use mathlib.Core.Path.{◌≡◌, sym, ap, ◌∙◌}
use mathlib.Core.List.{List, [], ◌++◌, append-nil}
use native.Mathlib.Nat.{mul-suc, mul-le-mul_left, add-zero}
use native.Mathlib.Omega.{arith}
use native.Mathlib.Decide.{dec_lt}
use lib.ListN.{length}
use Rattle.lists.specs.Lists.{listed, concat_map, All}
use Rattle.lists.proofs.All.{all_listed}
use Rattle.lists.proofs.Listed.{length_listed, get_or_listed}
use Rattle.lists.proofs.Concat.{concat_map_more, concat_map_same}
use Rattle.fields.specs.Bytes.{part, patch}
use Rattle.fields.proofs.Laws.Parts.{patch_append_left, patch_append_right, patch_whole}
use Rattle.page.proofs.Laws.Concat.{length_sized, part_sized}

-- the pieces below n
abbrev pub rows : (ℕ → List ℕ) → ℕ → List ℕ
rows f n = concat_map f (listed n (λ p. p))

module _ (f : ℕ → List ℕ) (k : ℕ) where
  rows_more : (n : ℕ) → rows f (suc n) ≡ rows f n ++ f n
  rows_more n = concat_map_more f (λ p. p) n

  module _ (n : ℕ) (each : (i : ℕ) → i < n → length (f i) ≡ k) where
    all_sized : All (λ i. length (f i) ≡ k) (listed n (λ p. p))
    all_sized = all_listed n (λ p. p) each

    pub length_rows : length (rows f n) ≡ k * n
    length_rows = length_sized f k all_sized ∙ ap (λ m. k * m) (length_listed n (λ p. p))

    pub part_rows : (i : ℕ) → i < n → part (rows f n) (k * i) k ≡ f i
    part_rows i l =
        ap (λ r. part r (k * i) k) (sym (append-nil (rows f n)))
        ∙ part_sized f k [] 0 i all_sized (omega (arith, length_listed n (λ p. p)))
        ∙ ap f (get_or_listed n (λ p. p) 0 i l)

-- pieces that are the same below n
rows_same : (f g : ℕ → List ℕ) (n : ℕ) → ((i : ℕ) → i < n → f i ≡ g i) → rows f n ≡ rows g n
rows_same f g n same = concat_map_same f (λ p. p) g (λ p. p) n same

-- the i-th piece is written
pub patch_rows : (f g : ℕ → List ℕ) (k n i : ℕ) → ((j : ℕ) → j < n → length (f j) ≡ k) → length (g i) ≡ k
    → ((j : ℕ) → (j ≡ i → ⊥) → f j ≡ g j) → i < n
    → patch (rows f n) (k * i) (g i) ≡ rows g n
patch_rows f g k zero i each long same l = absurd (omega arith)
patch_rows f g k (suc n) i each long same l =
    ap (λ r. patch r (k * i) (g i)) (rows_more f k n) ∙ go (dec_lt i n) (patch_rows f g k n i fewer long same) ∙ sym (rows_more g k n)
  where
    fewer : (j : ℕ) → j < n → length (f j) ≡ k
    fewer j m = each j (omega arith)

    sum : length (rows f n) ≡ k * n
    sum = length_rows f k n fewer

    go : Dec (i < n) → (i < n → patch (rows f n) (k * i) (g i) ≡ rows g n) → patch (rows f n ++ f n) (k * i) (g i) ≡ rows g n ++ g n
    go (yes m) before =
        patch_append_left (rows f n) (f n) (k * i) (g i) (omega (arith, sum, long, mul-le-mul_left k m, mul-suc k i))
        ∙ (λ j. before m j ++ same n (λ z. omega arith) j)
    go (no m) before =
        let d : n ≡ i = omega arith in
        let o : k * i ≡ length (rows f n) + 0 = ap (λ r. k * r) (sym d) ∙ sym sum ∙ sym (add-zero (length (rows f n))) in
        ap (λ r. patch (rows f n ++ f n) r (g i)) o
        ∙ patch_append_right (rows f n) (f n) 0 (g i)
        ∙ (λ j. rows_same f g n (λ q b. same q (λ z. omega arith)) j ++ patch_whole (f n) (g i) (long ∙ sym (each n (omega arith))) j)
        ∙ ap (λ r. rows g n ++ g r) (sym d)
