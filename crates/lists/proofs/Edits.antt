-- Edits by place: an element replaced by a list, and two neighbours by two; what they do to lengths and to what becomes of each.
-- Assumes nothing.
use Prim.Native.Nat.{ℕ, zero, suc, ◌+◌, ◌<◌}
use mathlib.Core.Path.{◌≡◌, refl, sym, ap, ◌∙◌}
use mathlib.Core.List.{List, [], ◌∷◌, ◌++◌, map}
use native.Mathlib.Omega.{arith}
use lib.ListN.{length, take, drop, get_or, length-append}
use lib.Seq.{split_at, length-take-le, drop_at, take-take, take-append-le}
use Rattle.lists.specs.Lists.{listed, splice}

module _ {A B : Type 0} (f : A → B) where
  pub map_append : (xs ys : List A) → map f (xs ++ ys) ≡ map f xs ++ map f ys
  map_append [] ys = refl
  map_append (x ∷ xs) ys = ap (λ (r : List B). f x ∷ r) (map_append xs ys)

  pub map_take : (i : ℕ) (xs : List A) → map f (take i xs) ≡ take i (map f xs)
  map_take zero xs = refl
  map_take (suc i) [] = refl
  map_take (suc i) (x ∷ xs) = ap (λ (r : List B). f x ∷ r) (map_take i xs)

  pub map_drop : (i : ℕ) (xs : List A) → map f (drop i xs) ≡ drop i (map f xs)
  map_drop zero xs = refl
  map_drop (suc i) [] = refl
  map_drop (suc i) (x ∷ xs) = map_drop i xs

  pub map_splice : (i : ℕ) (zs xs : List A) → map f (splice i zs xs) ≡ splice i (map f zs) (map f xs)
  unfolding splice
  map_splice i zs xs =
      map_append (take i xs) (zs ++ drop (suc i) xs)
      ∙ ap (λ (r : List B). r ++ map f (zs ++ drop (suc i) xs)) (map_take i xs)
      ∙ ap (λ (r : List B). take i (map f xs) ++ r)
      (map_append zs (drop (suc i) xs) ∙ ap (λ (r : List B). map f zs ++ r) (map_drop (suc i) xs))

module _ {A : Type 0} where
  pub splice_same : (i : ℕ) (xs : List A) (d : A) → i < length xs → splice i (get_or xs i d ∷ []) xs ≡ xs
  unfolding splice
  splice_same i xs d h = sym (split_at xs i d h)

  -- two neighbours replaced
  pub splice_two : (i : ℕ) (zs ys xs : List A) → suc i < length xs
      → splice i zs (splice (suc i) ys xs) ≡ take i xs ++ (zs ++ (ys ++ drop (suc (suc i)) xs))
  unfolding splice
  splice_two i zs ys xs h =
      let n : length (take (suc i) xs) ≡ suc i = length-take-le (suc i) xs (omega arith) in
      rw (
        drop_at (take (suc i) xs) (ys ++ drop (suc (suc i)) xs) (suc i) n,
        take-append-le i (take (suc i) xs)
            (ys ++ drop (suc (suc i)) xs) (omega arith),
        take-take i (suc i) xs (omega arith),
      )

  -- a list of one has the one that stands anywhere in it first
  pub only_first : (i : ℕ) (x : A) (zs xs : List A) (d : A) → i < length xs → length (take i xs ++ (x ∷ zs)) ≡ 1
      → get_or (take i xs ++ (x ∷ zs)) 0 d ≡ x
  only_first zero x zs xs d h n = refl
  only_first (suc i) x zs xs d h n =
      absurd (omega (arith, length-append (take (suc i) xs) (x ∷ zs), length-take-le (suc i) xs (omega arith)))

pub length_splice : {A : Type 0} (i : ℕ) (xs es : List A) → i < length es → length (splice i xs es) + 1 ≡ length xs + length es
unfolding splice
length_splice i xs [] h = absurd (omega arith)
length_splice zero xs (e ∷ es) h = omega (arith, length-append xs es)
length_splice (suc i) xs (e ∷ es) h = omega (arith, length_splice i xs es (omega arith))

pub length_splice_one : {A : Type 0} (i : ℕ) (x : A) (es : List A) → i < length es → length (splice i (x ∷ []) es) ≡ length es
length_splice_one i x es h = omega (arith, length_splice i (x ∷ []) es h)

-- of a list by index
pub map_listed : {A B : Type 0} (f : A → B) (n : ℕ) (g : ℕ → A) → map f (listed n g) ≡ listed n (λ i. f (g i))
unfolding listed
map_listed f zero g = refl
map_listed f (suc n) g = map_append f (listed n g) (g n ∷ []) ∙ ap (λ r. r ++ (f (g n) ∷ [])) (map_listed f n g)
