-- Lists of entries given by their indices: what holds at each index, and spans that follow each other. Assumes nothing.
use Prim.Native.Nat.{ℕ, zero, suc, ◌<◌}
use mathlib.Core.Path.{◌≡◌}
use mathlib.Core.List.{[], ◌∷◌, ◌++◌, map}
use native.Mathlib.Omega.{arith}
use Rattle.lists.specs.Lists.{All}
use Rattle.lists.proofs.Edits.{map_append, map_listed}
use Rattle.lists.proofs.All.{all_listed as each_listed}
use Rattle.page.specs.declared.Entry.{Entry}
use Rattle.lists.specs.Lists.{listed}
use Rattle.tree.specs.Tree.{Node}
use Rattle.tree.specs.Shape.{Asked, Seg, done}
use Rattle.tree.proofs.Seg.{seg_one, seg_append}

module _ {A : Type 0} (g : Entry → Node A) (f : ℕ → Entry) where
  map_more : (n : ℕ) → map g (listed (suc n) f) ≡ map g (listed n f) ++ (g (f n) ∷ [])
  unfolding listed
  map_more n = map_append g (listed n f) (f n ∷ [])

  pub all_listed : {Q : Node A → Type 0} (n : ℕ) → ((i : ℕ) → i < n → Q (g (f i))) → All Q (map g (listed n f))
  all_listed n h = rw (map_listed g n f) (each_listed n (λ i. g (f i)) h)

  pub seg_listed : {Q : Asked A} (n : ℕ) (b : ℕ → ℕ) → ((i : ℕ) → i < n → (g (f i)).entry.start ≡ b i) → ((i : ℕ) → i < n → b i < b (suc i))
      → ((i : ℕ) → i < n → Q (b i) (b (suc i)) (g (f i))) → Seg Q (b 0) (b n) (map g (listed n f))
  unfolding listed
  seg_listed zero b s r h = done
  seg_listed (suc n) b s r h =
      rw (map_more n)
      (seg_append (seg_listed n b (λ i l. s i (omega arith)) (λ i l. r i (omega arith)) (λ i l. h i (omega arith)))
      (seg_one (s n (omega arith)) (r n (omega arith)) (h n (omega arith))))
