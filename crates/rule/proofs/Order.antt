-- The better of two numbers under a total order: the greater and the lesser are it under ≤ and ≥. Assumes nothing.
use Rattle.std.proofs.Common.{arith, ◌≡◌, Bool, true, false, cond, ◌⊎◌, ℤ, pos, negsuc, sym, refl, ap, inl, inr, true≢false, le_trans, le_of_lt, le_antisymm, le-leb, leb-false, leb-true}
use Rattle.std.proofs.lemmas.Int.{ints}
use Rattle.std.specs.Int.{int_max, int_min}
use mathlib.Core.Logic.{⊎_swap}
use mathlib.Core.Bool.{false≢true}
use lib.Signed.{le_z}
use Rattle.rule.specs.Pairs.{greater, lesser}

-- What is used of the better of two numbers.
pub record Best (best : ℤ → ℤ → ℤ) : Type 0 where
  pub assoc : (a b c : ℤ) → best (best a b) c ≡ best a (best b c)
  pub comm : (a b : ℤ) → best a b ≡ best b a
  pub picks : (a b : ℤ) → (best a b ≡ a) ⊎ (best a b ≡ b)

-- What makes an order total, for a test.
record Total (le : ℤ → ℤ → Bool) : Type 0 where
  trans : (a b c : ℤ) → le a b ≡ true → le b c ≡ true → le a c ≡ true
  antisym : (a b : ℤ) → le a b ≡ true → le b a ≡ true → a ≡ b
  total : (a b : ℤ) → le a b ≡ false → le b a ≡ true

-- the first of two in an order
abbrev first : (ℤ → ℤ → Bool) → ℤ → ℤ → ℤ
first le a b = cond (le a b) a b

module _ (le : ℤ → ℤ → Bool) (order : Total le) where
  first_comm : (a b : ℤ) → first le a b ≡ first le b a
  first_comm a b = go (le a b) (le b a) refl refl
    where
      go : (x y : Bool) → le a b ≡ x → le b a ≡ y → cond x a b ≡ cond y b a
      go true true e f = order.antisym a b e f
      go true false e f = refl
      go false true e f = refl
      go false false e f = sym (order.antisym a b (order.total b a f) (order.total a b e))

  first_assoc : (a b c : ℤ) → first le (first le a b) c ≡ first le a (first le b c)
  first_assoc a b c = go (le a b) (le b c) refl refl
    where
      -- a is behind b and b behind c, so c is first
      last : (z : Bool) → le a b ≡ false → le b c ≡ false → le a c ≡ z → c ≡ cond z a c
      last true e f g = order.antisym c a (order.trans c b a (order.total b c f) (order.total a b e)) g
      last false e f g = refl

      go : (x y : Bool) → le a b ≡ x → le b c ≡ y → first le (cond x a b) c ≡ first le a (cond y b c)
      go true true e f = rw (e, order.trans a b c e f)
      go true false e f = refl
      go false true e f = rw (e, f)
      go false false e f = rw f (last (le a c) e f refl)

  first_picks : (a b : ℤ) → (first le a b ≡ a) ⊎ (first le a b ≡ b)
  first_picks a b = go (le a b)
    where
      go : (x : Bool) → (cond x a b ≡ a) ⊎ (cond x a b ≡ b)
      go true = inl refl
      go false = inr refl

  first_best : Best (first le)
  first_best = record { assoc = first_assoc; comm = first_comm; picks = first_picks }

-- ---- ≤ and ≥ are such orders

le_z_total : Total le_z
le_z_total = record { trans = trans; antisym = antisym; total = total }
  where
    trans : (a b c : ℤ) → le_z a b ≡ true → le_z b c ≡ true → le_z a c ≡ true
    trans (pos a) (pos b) (pos c) e f = le-leb a c (le_trans (leb-true a b e) (leb-true b c f))
    trans (pos a) (pos b) (negsuc c) e f = f
    trans (pos a) (negsuc b) (pos c) e f = absurd (false≢true e)
    trans (pos a) (negsuc b) (negsuc c) e f = e
    trans (negsuc a) b (pos c) e f = refl
    trans (negsuc a) (pos b) (negsuc c) e f = absurd (false≢true f)
    trans (negsuc a) (negsuc b) (negsuc c) e f = le-leb c a (le_trans (leb-true c b f) (leb-true b a e))

    antisym : (a b : ℤ) → le_z a b ≡ true → le_z b a ≡ true → a ≡ b
    antisym (pos a) (pos b) e f = ap pos (le_antisymm (leb-true a b e) (leb-true b a f))
    antisym (pos a) (negsuc b) e f = absurd (false≢true e)
    antisym (negsuc a) (pos b) e f = absurd (false≢true f)
    antisym (negsuc a) (negsuc b) e f = ap negsuc (le_antisymm (leb-true a b f) (leb-true b a e))

    total : (a b : ℤ) → le_z a b ≡ false → le_z b a ≡ true
    total (pos a) (pos b) e = le-leb b a (le_of_lt (leb-false a b e))
    total (pos a) (negsuc b) e = refl
    total (negsuc a) (pos b) e = absurd (true≢false e)
    total (negsuc a) (negsuc b) e = le-leb a b (le_of_lt (leb-false b a e))

-- the order read from the other end
flip : (ℤ → ℤ → Bool) → ℤ → ℤ → Bool
flip le a b = le b a

flip_total : (le : ℤ → ℤ → Bool) → Total le → Total (flip le)
unfolding flip
flip_total le order =
    record {
      trans = λ a b c e f. order.trans c b a f e;
      antisym = λ a b e f. order.antisym a b f e;
      total = λ a b e. order.total b a e;
    }

pub least : Best lesser
unfolding lesser
least = first_best le_z le_z_total

pub greatest : Best greater
unfolding greater flip
greatest =
    let g = first_best (flip le_z) (flip_total le_z le_z_total) in
    record {
      assoc = λ a b c. sym (g.assoc c b a);
      comm = λ a b. g.comm b a;
      picks = λ a b. ⊎_swap (g.picks b a);
    }

-- the library's greater and lesser of two numbers
pub max_greater : (a b : ℤ) → int_max a b ≡ greater a b
unfolding greater
max_greater a b = grind (arith, ints)

pub min_lesser : (a b : ℤ) → int_min a b ≡ lesser a b
unfolding lesser
min_lesser a b = grind (arith, ints)
