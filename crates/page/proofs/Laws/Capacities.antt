-- The laws of capacities: which there are, and half of each. Assumes nothing.
use mathlib.Core.Path.{◌≡◌, refl, sym, ap, ◌∙◌}
use mathlib.Core.Bool.{Bool, true, false, cond, ◌&&◌, and-eq-true_iff}
use mathlib.Core.List.{List}
use Prim.Native.Nat.{ℕ, ◌/◌, ◌%◌, ◌^◌, ◌<◌, ◌≤◌}
use native.Mathlib.Omega.{arith}
use lib.Dec.{eqb}
use borrow.Author.Tests.{eqb-true, eq-eqb, ne_eqb, leb-true, le-leb}
use Rattle.page.specs.Layout.{capacity, capacity_ok, no_field, capacity_named, half_named, head_of}
use Rattle.page.specs.Fit.{field_ok, head_fit}

-- what a capacity is
pub record Capacity (k : ℕ) : Type 0 where
  pub whole : capacity (k / 2) ≡ k
  pub half_least : 2 ≤ k / 2
  pub half_most : k / 2 ≤ 12

pub capacity_is : {k : ℕ} → capacity_ok k ≡ true → Capacity k
unfolding capacity_ok
capacity_is {k} ok =
    let t = simp and-eq-true_iff at ok in
    let even : k % 2 ≡ 0 = eqb-true _ _ t.0 in
    let least : 4 ≤ k = leb-true _ _ t.1.0 in
    let most : k ≤ 24 = leb-true _ _ t.1.1 in
    record { whole = omega arith; half_least = omega arith; half_most = omega arith }

-- a capacity names itself
pub names_itself : {k : ℕ} → capacity_ok k ≡ true → capacity_named k ≡ k
unfolding capacity_named
names_itself {k} ok =
    let c = capacity_is ok in
    rw (ne_eqb k no_field (λ e. omega (arith, c.whole, c.half_most, e)))

-- half of the capacity of that half
pub half_capacity : (field half : ℕ) → capacity_named field ≡ capacity half → half_named field ≡ half
half_capacity field half e = omega (arith, e)

-- a field that names a capacity is a u32
pub field_fits : {field : ℕ} → capacity_ok (capacity_named field) ≡ true → field < 2 ^ 32
unfolding capacity_named
field_fits {field} ok = go (eqb field no_field) refl ok
  where
    go : (b : Bool) → eqb field no_field ≡ b → capacity_ok (cond b 24 field) ≡ true → field < 2 ^ 32
    go true e ok = omega (arith, eqb-true field no_field e)
    go false e ok = let c = capacity_is ok in omega (arith, c.whole, c.half_most)

-- what a field that is fit says, and a fit head
pub field_is : (half field : ℕ) → field_ok half field ≡ true
    → (capacity_ok (capacity_named field) ≡ true) × (capacity_named field ≡ capacity half)
unfolding field_ok
field_is half field e =
    let k = simp and-eq-true_iff at e in
    (k.0, eqb-true _ _ k.1)

pub head_field : (half n : ℕ) (s : List ℕ) → head_fit half n s ≡ true → field_ok half (head_of s).capacity ≡ true
unfolding head_fit
head_field half n s e = (simp and-eq-true_iff at e).1.0

-- a capacity is the field of its half
pub own_field : (k : ℕ) → capacity_ok k ≡ true → field_ok (k / 2) k ≡ true
unfolding field_ok
own_field k ok =
    let own = names_itself ok in
    simp and-eq-true_iff (ap capacity_ok own ∙ ok, eq-eqb _ _ (own ∙ sym (capacity_is ok).whole))

-- which capacities there are, by half
pub capacity_of_half : (half : ℕ) → 2 ≤ half → half ≤ 12 → capacity_ok (capacity half) ≡ true
unfolding capacity_ok
capacity_of_half half l m =
    let even : capacity half % 2 ≡ 0 = omega arith in
    let least : 4 ≤ capacity half = omega arith in
    let most : capacity half ≤ 24 = omega arith in
    simp and-eq-true_iff (eq-eqb (capacity half % 2) 0 even, (le-leb 4 (capacity half) least, le-leb (capacity half) 24 most))

-- so a field that names the capacity of such a half needs no other test
pub field_by_half : (half field : ℕ) → 2 ≤ half → half ≤ 12 → eqb (capacity_named field) (capacity half) ≡ field_ok half field
unfolding field_ok
field_by_half half field l m = go (eqb (capacity_named field) (capacity half)) refl
  where
    neither : (b : Bool) → false ≡ b && false
    neither true = refl
    neither false = refl

    go : (b : Bool) → eqb (capacity_named field) (capacity half) ≡ b → b ≡ capacity_ok (capacity_named field) && b
    go true e =
        let named : capacity_named field ≡ capacity half = eqb-true _ _ e in
        sym (ap (λ k. capacity_ok k && true) named ∙ ap (λ b. b && true) (capacity_of_half half l m))
    go false e = neither (capacity_ok (capacity_named field))
