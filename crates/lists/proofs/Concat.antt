-- The laws of `concat_map`, the lists of a function's values one behind another, and of sums over lists that are. Assumes nothing.
use mathlib.Core.Path.{◌≡◌, refl, sym, ap, ◌∙◌}
use mathlib.Core.List.{List, [], ◌∷◌, ◌++◌, append_assoc, append-nil, map}
use Prim.Native.Nat.{ℕ, zero, suc, ◌+◌, ◌<◌}
use native.Mathlib.Omega.{arith}
use lib.ListN.{length, length-append}
use Rattle.lists.specs.Lists.{listed, concat_map, sum, total}

module _ {A B : Type 0} (f : A → List B) where
  pub concat_map_append : (xs ys : List A) → concat_map f (xs ++ ys) ≡ concat_map f xs ++ concat_map f ys
  unfolding concat_map
  concat_map_append [] ys = refl
  concat_map_append (x ∷ xs) ys =
      ap (λ l. f x ++ l) (concat_map_append xs ys) ∙ sym (append_assoc (f x) (concat_map f xs) (concat_map f ys))

  pub concat_map_one : (x : A) → concat_map f (x ∷ []) ≡ f x
  unfolding concat_map
  concat_map_one x = append-nil (f x)

  pub concat_map_more : (g : ℕ → A) (n : ℕ) → concat_map f (listed (suc n) g) ≡ concat_map f (listed n g) ++ f (g n)
  unfolding listed
  concat_map_more g n = concat_map_append (listed n g) (g n ∷ []) ∙ ap (λ r. concat_map f (listed n g) ++ r) (concat_map_one (g n))

  pub concat_map_length : (g : ℕ → A) (n : ℕ) → length (concat_map f (listed n g)) ≡ total n (λ i. length (f (g i)))
  unfolding concat_map listed total
  concat_map_length g zero = refl
  concat_map_length g (suc n) =
      omega (arith, ap length (concat_map_more g n), length-append (concat_map f (listed n g)) (f (g n)), concat_map_length g n)

-- ---- the same list of two functions

-- of each element, and of what becomes of it
pub concat_map_map : {A B D : Type 0} (f : A → List D) (g : B → List D) (k : A → B) → ((x : A) → f x ≡ g (k x)) → (xs : List A)
    → concat_map f xs ≡ concat_map g (map k xs)
unfolding concat_map
concat_map_map f g k h [] = refl
concat_map_map f g k h (x ∷ xs) = λ j. h x j ++ concat_map_map f g k h xs j

-- of lists by index
pub concat_map_same : {A B D : Type 0} (f : A → List D) (a : ℕ → A) (g : B → List D) (b : ℕ → B) (n : ℕ)
    → ((i : ℕ) → i < n → f (a i) ≡ g (b i)) → concat_map f (listed n a) ≡ concat_map g (listed n b)
unfolding concat_map listed
concat_map_same f a g b zero h = refl
concat_map_same f a g b (suc n) h =
    concat_map_more f a n
    ∙ (λ j. concat_map_same f a g b n (λ i l. h i (omega arith)) j ++ h n (omega arith) j)
    ∙ sym (concat_map_more g b n)

-- ---- sums

pub sum_append : {A : Type 0} (f : A → ℕ) (xs ys : List A) → sum f (xs ++ ys) ≡ sum f xs + sum f ys
unfolding sum
sum_append f [] ys = omega arith
sum_append f (x ∷ xs) ys = omega (arith, sum_append f xs ys)

pub sum_concat_map : {A B : Type 0} (f : B → ℕ) (g : A → List B) (a : ℕ → A) (n : ℕ)
    → sum f (concat_map g (listed n a)) ≡ total n (λ i. sum f (g (a i)))
unfolding sum concat_map listed total
sum_concat_map f g a zero = refl
sum_concat_map f g a (suc n) =
    omega (
      arith,
      ap (sum f) (concat_map_more g a n),
      sum_append f (concat_map g (listed n a)) (g (a n)),
      sum_concat_map f g a n,
    )
