-- Numbers that are written one after the other, each step by what a call ensures, and unused bytes behind them. Assumes nothing.
use mathlib.Core.Path.{◌≡◌, sym, ap, ◌∙◌}
use mathlib.Core.List.{List, [], ◌∷◌, ◌++◌, append_assoc}
use Prim.Native.Nat.{ℕ, ◌+◌, ◌*◌, ◌≤◌}
use native.Mathlib.Omega.{arith}
use lib.ListN.{length, length-append}
use Rattle.fields.specs.Bytes.{patch, unused}
use Rattle.fields.specs.Numbers.{u32_bytes}
use Rattle.fields.proofs.Laws.Parts.{patch_whole, patch_patch_next}
use Rattle.fields.proofs.Laws.Offsets.{u32}
use Rattle.fields.proofs.Laws.Tests.{length_unused}
use Rattle.lists.specs.Lists.{concat_map}
use Rattle.lists.proofs.Concat.{concat_map_append, concat_map_one}
use Rattle.page.proofs.Laws.Concat.{length_joined}

module _ (s : List ℕ) (o : ℕ) where
  -- the first number
  pub put_first : (v : ℕ) {t : List ℕ} → t ≡ patch s o (u32_bytes v) → t ≡ patch s o (concat_map u32_bytes (v ∷ []))
  put_first v e = e ∙ ap (patch s o) (sym (concat_map_one u32_bytes v))

  -- numbers behind those that stand there
  pub put_more : (xs ys : List ℕ) {t u : List ℕ} (p : ℕ) → o + 4 * length xs ≡ p → o ≤ length s
      → t ≡ patch s o (concat_map u32_bytes xs) → u ≡ patch t p (concat_map u32_bytes ys) → u ≡ patch s o (concat_map u32_bytes (xs ++ ys))
  put_more xs ys p q h e f =
      f
      ∙ ap (λ l. patch l p (concat_map u32_bytes ys)) e
      ∙ patch_patch_next s o (concat_map u32_bytes xs) (concat_map u32_bytes ys) p
      (ap (λ k. o + k) (length_joined u32_bytes 4 u32.length_bytes xs) ∙ q) h
      ∙ ap (patch s o) (sym (concat_map_append u32_bytes xs ys))

  pub put_next : (xs : List ℕ) (v : ℕ) {t u : List ℕ} (p : ℕ) → o + 4 * length xs ≡ p → o ≤ length s
      → t ≡ patch s o (concat_map u32_bytes xs) → u ≡ patch t p (u32_bytes v) → u ≡ patch s o (concat_map u32_bytes (xs ++ (v ∷ [])))
  put_next xs v {t} p q h e f = put_more xs (v ∷ []) p q h e (f ∙ ap (patch t p) (sym (concat_map_one u32_bytes v)))

-- with unused bytes behind them they are the whole list
pub put_rest : (s vs : List ℕ) (o n : ℕ) {t u : List ℕ} → 4 * length vs ≡ o → o + n ≡ length s
    → t ≡ patch s 0 (concat_map u32_bytes vs) → u ≡ patch t o (unused n) → u ≡ concat_map u32_bytes vs ++ unused n
put_rest s vs o n q h e f =
    let l : length (concat_map u32_bytes vs) ≡ 4 * length vs = length_joined u32_bytes 4 u32.length_bytes vs in
    let m : length (unused n) ≡ n = length_unused n in
    f
    ∙ ap (λ l. patch l o (unused n)) e
    ∙ patch_patch_next s 0 (concat_map u32_bytes vs) (unused n) o (omega arith) (omega arith)
    ∙ patch_whole s (concat_map u32_bytes vs ++ unused n) (simp length-append (omega arith))

-- two numbers and what stands behind them
pub joined_two : (a b : ℕ) (ys : List ℕ) → concat_map u32_bytes (a ∷ b ∷ []) ++ ys ≡ u32_bytes a ++ (u32_bytes b ++ ys)
unfolding concat_map
joined_two a b ys = simp append_assoc
