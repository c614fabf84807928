-- Entries in the place of one of a list, where the list is known around it. Assumes nothing.
use Prim.Native.Nat.{suc}
use mathlib.Core.Path.{◌≡◌, refl, ap}
use mathlib.Core.List.{List, [], ◌∷◌, ◌++◌}
use lib.ListN.{length, get_or}
use Rattle.lists.specs.Lists.{splice}

module _ {A : Type 0} where
  pub splice_at : (xs : List A) (x : A) (ys zs : List A) → splice (length xs) zs (xs ++ x ∷ ys) ≡ xs ++ (zs ++ ys)
  unfolding splice
  splice_at [] x ys zs = refl
  splice_at (y ∷ xs) x ys zs = ap (λ l. y ∷ l) (splice_at xs x ys zs)

  pub splice_next : (xs : List A) (x y : A) (ys zs : List A) → splice (suc (length xs)) zs (xs ++ x ∷ y ∷ ys) ≡ xs ++ x ∷ (zs ++ ys)
  unfolding splice
  splice_next [] x y ys zs = refl
  splice_next (z ∷ xs) x y ys zs = ap (λ l. z ∷ l) (splice_next xs x y ys zs)

  pub get_or_next : (xs : List A) (x y : A) (ys : List A) (d : A) → get_or (xs ++ x ∷ y ∷ ys) (suc (length xs)) d ≡ y
  get_or_next [] x y ys d = refl
  get_or_next (z ∷ xs) x y ys d = get_or_next xs x y ys d
