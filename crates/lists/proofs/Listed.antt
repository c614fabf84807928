-- The laws of `listed`, the list of a function's values below a number. Assumes nothing.
use mathlib.Core.Path.{◌≡◌, refl, sym, ap, ◌∙◌}
use mathlib.Core.List.{List, [], ◌∷◌, ◌++◌}
use Prim.Native.Nat.{ℕ, zero, suc, ◌+◌, ◌≤◌, ◌<◌}
use native.Mathlib.Decide.{dec_lt}
use native.Mathlib.Numerals.{add-one}
use native.Mathlib.Omega.{arith}
use lib.ListN.{length, get_or, take, length-append, length-take, get_or-append, get_or-eq_default}
use lib.Seq.{get_or_at, get_or-take, ext_get_or}
use Rattle.lists.specs.Lists.{listed}

module _ {A : Type 0} where
  pub length_listed : (n : ℕ) (f : ℕ → A) → length (listed n f) ≡ n
  unfolding listed
  length_listed zero f = refl
  length_listed (suc n) f = length-append (listed n f) (f n ∷ []) ∙ add-one (length (listed n f)) ∙ ap suc (length_listed n f)

  pub get_or_listed : (n : ℕ) (f : ℕ → A) (d : A) (i : ℕ) → i < n → get_or (listed n f) i d ≡ f i
  unfolding listed
  get_or_listed zero f d i h = absurd (omega arith)
  get_or_listed (suc n) f d i h = last (dec_lt i n) (get_or_listed n f d i)
    where
      last : Dec (i < n) → (i < n → get_or (listed n f) i d ≡ f i) → get_or (listed n f ++ (f n ∷ [])) i d ≡ f i
      last (yes l) below =
          let e : length (listed n f) ≡ n = length_listed n f in
          get_or-append (listed n f) (f n ∷ []) d i (omega arith) ∙ below l
      last (no g) below =
          let e : n ≡ i = omega arith in
          get_or_at (listed n f) (f n) [] d i (length_listed n f ∙ e) ∙ ap f e

  -- a loop's step: one value more
  pub listed_more : (n : ℕ) (f : ℕ → A) → listed (n + 1) f ≡ listed n f ++ (f n ∷ [])
  unfolding listed
  listed_more n f = rw add-one

  -- functions that agree below n
  pub listed_same : (n : ℕ) (f g : ℕ → A) → ((i : ℕ) → i < n → f i ≡ g i) → listed n f ≡ listed n g
  unfolding listed
  listed_same zero f g h = refl
  listed_same (suc n) f g h = λ j. listed_same n f g (λ i l. h i (omega arith)) j ++ (h n (omega arith) j ∷ [])

  -- a list is that of its elements
  pub listed_get_or : (xs : List A) (d : A) → listed (length xs) (λ i. get_or xs i d) ≡ xs
  listed_get_or xs d =
      let n : ℕ = length xs in
      let e : length (listed n (λ i. get_or xs i d)) ≡ n = length_listed n (λ i. get_or xs i d) in
      ext_get_or d (listed n (λ i. get_or xs i d)) xs e (λ i h. get_or_listed n (λ j. get_or xs j d) d i (omega arith))

  -- the first of them
  pub listed_take : (n k : ℕ) (f : ℕ → A) → A → k ≤ n → take k (listed n f) ≡ listed k f
  listed_take n k f d h =
      let long : length (take k (listed n f)) ≡ k = length-take k (listed n f) ∙ rw (length_listed n f) (omega arith) in
      ext_get_or d _ _ (long ∙ sym (length_listed k f))
      (λ i below.
      let inside : i < k = omega arith in
      get_or-take k (listed n f) i d inside ∙ get_or_listed n f d i (omega arith) ∙ sym (get_or_listed k f d i inside))

  -- what holds of every value, and of what stands past the end, holds at every place
  pub listed_each : (P : A → Type 0) (n : ℕ) (f : ℕ → A) (d : A) → P d → ((i : ℕ) → P (f i)) → (i : ℕ) → P (get_or (listed n f) i d)
  listed_each P n f d none all i = which (dec_lt i n)
    where
      which : Dec (i < n) → P (get_or (listed n f) i d)
      which (yes l) = rw (get_or_listed n f d i l) (all i)
      which (no g) =
          let e : length (listed n f) ≡ n = length_listed n f in
          let h : length (listed n f) ≤ i = omega arith in
          rw (get_or-eq_default (listed n f) d h) none
