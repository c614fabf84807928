-- Spans that follow each other, by the indices of their entries. Assumes nothing.
use Prim.Native.Nat.{ℕ, zero, suc, ◌≤◌, ◌<◌}
use mathlib.Core.Path.{◌≡◌, refl, ◌∙◌}
use mathlib.Core.List.{List, ◌++◌}
use native.Mathlib.Omega.{arith}
use lib.ListN.{length, get_or}
use Rattle.lists.specs.Lists.{concat_map}
use Rattle.page.specs.declared.Entry.{Entry}
use Rattle.tree.specs.Tree.{Node, flat}
use Rattle.tree.specs.Shape.{Asked, Seg, done, more}
use Rattle.tree.proofs.Seg.{seg_le}

module _ {A : Type 0} {Q : Asked A} where
  module _ (d : Node A) where
    -- the bounds are the starts, and the end of all
    pub seg_first : {lo hi : ℕ} {es : List (Node A)} (b : ℕ → ℕ) → ((i : ℕ) → i < length es → b i ≡ (get_or es i d).entry.start)
        → b (length es) ≡ hi
        → Seg Q lo hi es → b 0 ≡ lo
    seg_first b s e done = e
    seg_first b s e (more c lt q r) = s 0 (omega arith) ∙ c

    pub seg_at : {lo hi : ℕ} {es : List (Node A)} (b : ℕ → ℕ) → ((i : ℕ) → i < length es → b i ≡ (get_or es i d).entry.start)
        → b (length es) ≡ hi
        → Seg Q lo hi es → (i : ℕ) → i < length es → (b i < b (suc i)) × (b (suc i) ≤ hi) × Q (b i) (b (suc i)) (get_or es i d)
    seg_at b s e done i l = absurd (omega arith)
    seg_at b s e (more {lo} {mid} {x = x} c lt q r) zero l =
        let first : b 0 ≡ lo = s 0 (omega arith) ∙ c in
        let second : b 1 ≡ mid = seg_first (λ i. b (suc i)) (λ i m. s (suc i) (omega arith)) e r in
        rw (first, second) (lt, seg_le r, q)
    seg_at b s e (more c lt q r) (suc i) l = seg_at (λ j. b (suc j)) (λ j m. s (suc j) (omega arith)) e r i (omega arith)

  -- lists of the entries as pages hold them, and with what is below
  pub seg_over : (f : Entry → List ℕ) (g : Node A → List ℕ) {lo hi : ℕ} {es : List (Node A)}
      → ((a b : ℕ) (x : Node A) → b ≤ hi → Q a b x → f x.entry ≡ g x)
      → Seg Q lo hi es → concat_map f (flat es) ≡ concat_map g es
  unfolding concat_map
  seg_over f g h done = refl
  seg_over f g h (more {lo} {mid} {x = x} e lt q r) = λ j. h lo mid x (seg_le r) q j ++ seg_over f g h r j
