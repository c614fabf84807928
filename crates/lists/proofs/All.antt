-- What holds of each element of a list: of the one in a place, of an append and the parts, and with others in the place of some.
-- Assumes nothing.
use Prim.Native.Nat.{ℕ, zero, suc, ◌<◌}
use mathlib.Core.List.{List, [], ◌∷◌, ◌++◌, map}
use native.Mathlib.Omega.{arith}
use lib.ListN.{length, take, drop, get_or}
use Rattle.lists.specs.Lists.{listed, splice, All, all_none, all_more}

module _ {A : Type 0} {Q : A → Type 0} where
  pub all_at : {es : List A} (i : ℕ) (d : A) → All Q es → i < length es → Q (get_or es i d)
  all_at i d all_none h = absurd (omega arith)
  all_at zero d (all_more q r) h = q
  all_at (suc i) d (all_more q r) h = all_at i d r (omega arith)

  -- also past the end
  pub all_get_d : {es : List A} (i : ℕ) {d : A} → All Q es → Q d → Q (get_or es i d)
  all_get_d i all_none h = h
  all_get_d zero (all_more q r) h = q
  all_get_d (suc i) (all_more q r) h = all_get_d i r h

  pub all_head : {x : A} {xs : List A} → All Q (x ∷ xs) → Q x
  all_head (all_more q a) = q

  pub all_tail : {x : A} {xs : List A} → All Q (x ∷ xs) → All Q xs
  all_tail (all_more q a) = a

  pub all_append : {xs ys : List A} → All Q xs → All Q ys → All Q (xs ++ ys)
  all_append all_none b = b
  all_append (all_more q r) b = all_more q (all_append r b)

  pub all_left : (xs ys : List A) → All Q (xs ++ ys) → All Q xs
  all_left [] ys a = all_none
  all_left (x ∷ xs) ys (all_more q r) = all_more q (all_left xs ys r)

  pub all_right : (xs ys : List A) → All Q (xs ++ ys) → All Q ys
  all_right [] ys a = a
  all_right (x ∷ xs) ys (all_more q r) = all_right xs ys r

  pub all_take : {es : List A} (k : ℕ) → All Q es → All Q (take k es)
  all_take zero a = all_none
  all_take (suc k) all_none = all_none
  all_take (suc k) (all_more {x = x} {xs = xs} q r) = all_more q (all_take {es = xs} k r)

  pub all_drop : {es : List A} (k : ℕ) → All Q es → All Q (drop k es)
  all_drop zero a = a
  all_drop (suc k) all_none = all_none
  all_drop (suc k) (all_more {x = x} {xs = xs} q r) = all_drop {es = xs} k r

  pub all_splice : {xs es : List A} (i : ℕ) → All Q xs → All Q es → All Q (splice i xs es)
  unfolding splice
  all_splice i a b = all_append (all_take i b) (all_append a (all_drop (suc i) b))

-- of what becomes of each
pub all_map : {A B : Type 0} {Q : A → Type 0} {R : B → Type 0} {es : List A} (f : A → B)
    → ((x : A) → Q x → R (f x)) → All Q es → All R (map f es)
all_map f h all_none = all_none
all_map f h (all_more {x} q r) = all_more (h x q) (all_map f h r)

pub all_unmap : {A B : Type 0} {Q : A → Type 0} {R : B → Type 0} (f : A → B) → ((x : A) → R (f x) → Q x) → (es : List A)
    → All R (map f es) → All Q es
all_unmap f h [] a = all_none
all_unmap f h (x ∷ es) (all_more q r) = all_more (h x q) (all_unmap f h es r)

pub all_weaken : {A : Type 0} {Q R : A → Type 0} {es : List A} → ((x : A) → Q x → R x) → All Q es → All R es
all_weaken h all_none = all_none
all_weaken h (all_more {x} q r) = all_more (h x q) (all_weaken h r)

-- of any list, where it holds of whatever there is
pub all_always : {A : Type 0} {Q : A → Type 0} → ((x : A) → Q x) → (es : List A) → All Q es
all_always h [] = all_none
all_always h (x ∷ xs) = all_more (h x) (all_always h xs)

-- of a list by index
pub all_listed : {A : Type 0} {Q : A → Type 0} (n : ℕ) (f : ℕ → A) → ((i : ℕ) → i < n → Q (f i)) → All Q (listed n f)
unfolding listed
all_listed zero f h = all_none
all_listed (suc n) f h = all_append (all_listed n f (λ i l. h i (omega arith))) (all_more (h n (omega arith)) all_none)
