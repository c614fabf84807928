-- A call as the index offers it: what the rows ahead turn back, and else the call by the capacity that the image names. Assumes nothing.
use Prim.Native.Nat.{ℕ}
use mathlib.Core.Path.{◌≡◌, refl, sym, ap, ◌∙◌}
use mathlib.Core.Logic.{◌≢◌, ◌⊎◌, inl, inr}
use mathlib.Core.Bool.{Bool, true, false, cond, not}
use mathlib.Core.List.{List}
use native.Mathlib.Omega.{arith}
use lib.ListN.{length}
use lib.Dec.{eqb, ltb}
use borrow.Author.Tests.{eqb-true, eqb-false, eq-eqb, ne_eqb}
use Rattle.lists.proofs.Choices.{cond_one, cond_ap}
use Rattle.image.specs.Images.{half_of}
use Rattle.calls.specs.Refusals.{first}
use Rattle.calls.specs.Index.{names_capacity, judge, judged}

module _ {A : Type 0} (refused call : ℕ → A) (img : List ℕ) where
  pub by_judge : (P : A → Type 0) → (judge img ≡ 0 → P (call (half_of img))) → (judge img ≢ 0 → P (refused (judge img)))
      → P (judged refused call img)
  unfolding judged
  by_judge P f g =
      cond_one P (eqb (judge img) 0) (λ e. f (eqb-true (judge img) 0 e)) (λ e. g (eqb-false (judge img) 0 e))

  pub judged_own : judge img ≡ 0 → judged refused call img ≡ call (half_of img)
  unfolding judged
  judged_own e = ap (λ b. cond b (call (half_of img)) (refused (judge img))) (eq-eqb (judge img) 0 e)

  pub judged_refused : judge img ≢ 0 → judged refused call img ≡ refused (judge img)
  unfolding judged
  judged_refused n = ap (λ b. cond b (call (half_of img)) (refused (judge img))) (ne_eqb (judge img) 0 n)

  -- a part of what it leaves
  pub judged_part : {B : Type 0} (part : A → B)
      → part (judged refused call img) ≡ cond (eqb (judge img) 0) (part (call (half_of img))) (part (refused (judge img)))
  unfolding judged
  judged_part part = cond_ap part (eqb (judge img) 0) (call (half_of img)) (refused (judge img))

module _ (img : List ℕ) where
  -- a status behind the rows ahead
  pub judge_then : (n : ℕ) → cond (eqb (judge img) 0) n (judge img)
      ≡ cond (ltb (length img) 40) 16 (cond (not (names_capacity img)) 21 n)
  unfolding judge first
  judge_then n = go (ltb (length img) 40) (not (names_capacity img))
    where
      go : (x y : Bool) → ◌≡◌ {A = ℕ} (cond (eqb (cond x 16 (cond y 21 0)) 0) n (cond x 16 (cond y 21 0))) (cond x 16 (cond y 21 n))
      go true y = refl
      go false true = refl
      go false false = refl

  pub record GoesOn : Type 0 where
    pub long : ltb (length img) 40 ≡ false
    pub named : names_capacity img ≡ true

  pub goes_on : judge img ≡ 0 → GoesOn
  unfolding judge first
  goes_on e = go (ltb (length img) 40) (names_capacity img) refl refl e
    where
      go : (x y : Bool) → ltb (length img) 40 ≡ x → names_capacity img ≡ y → ◌≡◌ {A = ℕ} (cond x 16 (cond (not y) 21 0)) 0 → GoesOn
      go true y f g e = absurd (omega (arith, e))
      go false false f g e = absurd (omega (arith, e))
      go false true f g e = record { long = f; named = g }

  pub judge_passes : GoesOn → judge img ≡ 0
  unfolding judge first
  judge_passes k = rw (k.long, k.named)

  -- and it has no other status
  pub judge_is : (judge img ≡ 0) ⊎ ((judge img ≡ 16) ⊎ (judge img ≡ 21))
  unfolding judge first
  judge_is = go (ltb (length img) 40) (not (names_capacity img))
    where
      number : Bool → Bool → ℕ
      number x y = cond x 16 (cond y 21 0)

      go : (x y : Bool) → (number x y ≡ 0) ⊎ ((number x y ≡ 16) ⊎ (number x y ≡ 21))
      go true y = inr (inl refl)
      go false true = inr (inr refl)
      go false false = inl refl

  pub judge_not : (k : ℕ) → 0 ≢ k → 16 ≢ k → 21 ≢ k → judge img ≢ k
  judge_not k n m l = go judge_is
    where
      go : (judge img ≡ 0) ⊎ ((judge img ≡ 16) ⊎ (judge img ≡ 21)) → judge img ≢ k
      go (inl z) e = n (sym z ∙ e)
      go (inr (inl z)) e = m (sym z ∙ e)
      go (inr (inr z)) e = l (sym z ∙ e)
