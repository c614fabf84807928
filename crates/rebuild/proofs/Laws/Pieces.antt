-- Pieces of one size, written one after the other: forwards, and from the last to the first. Assumes nothing.
use Prim.Native.Nat.{ℕ, suc, ◌+◌, ◌*◌, ◌≤◌, ◌<◌}
use mathlib.Core.Path.{◌≡◌, refl, sym, ap, ◌∙◌}
use mathlib.Core.List.{List, [], ◌∷◌, ◌++◌}
use native.Mathlib.Nat.{mul-suc, mul-le-mul_left}
use native.Mathlib.Numerals.{add-one}
use native.Mathlib.Omega.{arith}
use lib.ListN.{length, drop}
use lib.Seq.{drop-cons, drop-length}
use Rattle.lists.specs.Lists.{listed, concat_map}
use Rattle.lists.proofs.Listed.{length_listed, get_or_listed}
use Rattle.lists.proofs.Concat.{concat_map_more, concat_map_same}
use Rattle.fields.specs.Bytes.{patch}
use Rattle.fields.proofs.Laws.Parts.{patch_none, patch_patch_next, patch_front}
use Rattle.image.proofs.Rows.{rows, length_rows}

-- bytes of listed things are the pieces that each of them gives
pub joined_rows : {A : Type 0} (b : A → List ℕ) (g : ℕ → A) (f : ℕ → List ℕ) (n : ℕ) → ((i : ℕ) → i < n → b (g i) ≡ f i)
    → concat_map b (listed n g) ≡ rows f n
joined_rows b g f n same = concat_map_same b g f (λ p. p) n same

-- the pieces from the i-th on, of n
unfoldable pub behind : (ℕ → List ℕ) → ℕ → ℕ → List ℕ
behind f n i = concat_map f (drop i (listed n (λ p. p)))

module _ (f : ℕ → List ℕ) (n : ℕ) where
  behind_none : behind f n n ≡ []
  unfolding behind concat_map
  behind_none =
      ap (λ k. concat_map f (drop k (listed n (λ p. p)))) (sym (length_listed n (λ p. p)))
      ∙ ap (concat_map f) (drop-length (listed n (λ p. p)))

  behind_more : (i : ℕ) → i < n → behind f n i ≡ f i ++ behind f n (suc i)
  unfolding behind concat_map
  behind_more i h =
      ap (concat_map f)
      (drop-cons (listed n (λ p. p)) i 0 (omega (arith, length_listed n (λ p. p)))
      ∙ ap (λ k. k ∷ drop (suc i) (listed n (λ p. p))) (get_or_listed n (λ p. p) 0 i h))

  pub behind_all : behind f n 0 ≡ rows f n
  unfolding behind
  behind_all = refl

-- ---- from the last to the first: pieces of k bytes, the i-th at k * suc i

module _ (f : ℕ → List ℕ) (n k : ℕ) (s : List ℕ) where
  pub back_none : s ≡ patch s (k * suc n) (behind f n n)
  back_none = sym (ap (patch s (k * suc n)) (behind_none f n) ∙ patch_none s (k * suc n))

  pub back_more : {t u : List ℕ} {bs : List ℕ} (i : ℕ) → i < n → k * suc n ≤ length s → length (f i) ≡ k
      → t ≡ patch s (k * suc (suc i)) (behind f n (suc i)) → u ≡ patch t (k * suc i) bs → bs ≡ f i
      → u ≡ patch s (k * suc i) (behind f n i)
  back_more i h room size before wrote same =
      let l : k * suc (suc i) ≤ k * suc n = mul-le-mul_left k (omega arith) in
      wrote
      ∙ (λ j. patch (before j) (k * suc i) (same j))
      ∙ patch_front s (k * suc (suc i)) (behind f n (suc i)) (k * suc i) (f i) (omega (arith, mul-suc k (suc i))) (omega arith)
      ∙ ap (patch s (k * suc i)) (sym (behind_more f n i h))

-- ---- forwards: the i-th at o + k * i

module _ (f : ℕ → List ℕ) (n k : ℕ) (s : List ℕ) (o : ℕ) where
  pub ahead_none : s ≡ patch s o (rows f 0)
  unfolding concat_map listed
  ahead_none = sym (patch_none s o)

  pub ahead_more : {t u : List ℕ} {bs : List ℕ} (i q : ℕ) → i < n → o ≤ length s → ((j : ℕ) → j < n → length (f j) ≡ k)
      → t ≡ patch s o (rows f i) → u ≡ patch t q bs → bs ≡ f i → q ≡ o + k * i
      → u ≡ patch s o (rows f (i + 1))
  ahead_more i q h room each before wrote same e =
      let size : length (rows f i) ≡ k * i = length_rows f k i (λ j l. each j (omega arith)) in
      wrote
      ∙ (λ j. patch (before j) (e j) (same j))
      ∙ patch_patch_next s o (rows f i) (f i) (o + k * i) (omega arith) room
      ∙ ap (patch s o) (sym (ap (rows f) (add-one i) ∙ concat_map_more f (λ p. p) i))
