-- The capacity that an image names: its field is the head's, and where the head is fit, it is the one by which the image was read. Assumes
-- nothing.
use Prim.Native.Nat.{ℕ, ◌+◌, ◌*◌, ◌≤◌}
use mathlib.Core.Path.{◌≡◌, refl, sym, ap, ◌∙◌}
use mathlib.Core.Bool.{true}
use mathlib.Core.List.{List}
use native.Mathlib.Omega.{arith}
use Rattle.fields.specs.Bytes.{part}
use Rattle.fields.specs.Numbers.{num, u32_at}
use Rattle.fields.proofs.Laws.Parts.{part_part}
use Rattle.page.specs.Layout.{capacity_ok, capacity_named, half_named, page_size, head_of}
use Rattle.page.specs.Fit.{head_fit}
use Rattle.page.proofs.Laws.Capacities.{Capacity, capacity_is, half_capacity, field_is, head_field}
use Rattle.image.specs.Images.{capacity_field, half_of, page_at}

-- the head's numbers stand in the image where they stand in its first page
number_read : (half : ℕ) (img : List ℕ) (o : ℕ) → 1 ≤ half → o ≤ 36 → u32_at (page_at half img 0) o ≡ u32_at img o
unfolding page_at u32_at
number_read half img o some l =
    let first : page_size half * 0 + o ≡ o = omega arith in
    ap num (part_part img (page_size half * 0) (page_size half) o 4 (omega arith) ∙ ap (λ k. part img k 4) first)

pub field_read : (half : ℕ) (img : List ℕ) → 1 ≤ half → (head_of (page_at half img 0)).capacity ≡ capacity_field img
unfolding head_of capacity_field
field_read half img some = number_read half img 36 some (omega arith)

pub kind_read : (half : ℕ) (img : List ℕ) → 1 ≤ half → (head_of (page_at half img 0)).kind ≡ u32_at img 24
unfolding head_of
kind_read half img some = number_read half img 24 some (omega arith)

-- half of the capacity that an image names
pub record Half (half : ℕ) (img : List ℕ) : Type 0 where
  pub named : capacity_ok (capacity_named (capacity_field img)) ≡ true
  pub is : half_of img ≡ half
  pub least : 2 ≤ half
  pub most : half ≤ 12

pub own_half : {img : List ℕ} → capacity_ok (capacity_named (capacity_field img)) ≡ true → Half (half_of img) img
unfolding half_of
own_half ok =
    let c = capacity_is ok in
    record { named = ok; is = refl; least = c.half_least; most = c.half_most }

pub fit_half : (half n : ℕ) (img : List ℕ) → head_fit half n (page_at half img 0) ≡ true → Half half img
unfolding half_of
fit_half half n img ok =
    let f = field_is half (head_of (page_at half img 0)).capacity (head_field half n (page_at half img 0) ok) in
    let c = capacity_is f.0 in
    let some : 1 ≤ half = omega (arith, c.whole, c.half_least, f.1) in
    let e = field_read half img some in
    record {
      named = ap (λ x. capacity_ok (capacity_named x)) (sym e) ∙ f.0;
      is = half_capacity (capacity_field img) half (ap capacity_named (sym e) ∙ f.1);
      least = omega (arith, c.whole, c.half_least, f.1);
      most = omega (arith, c.whole, c.half_most, f.1);
    }
