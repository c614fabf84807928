-- A test that decides a proposition. Assumes nothing.
use Prim.Native.Nat.{ℕ, ◌<◌, ◌≤◌}
use mathlib.Core.Path.{◌≡◌, refl, sym}
use mathlib.Core.Logic.{◌⊎◌, inl, inr}
use mathlib.Core.Bool.{Bool, true, false, cond, not, ◌&&◌, ◌||◌, false≢true}
use native.Mathlib.Omega.{arith}
use lib.Dec.{eqb, leb, ltb}
use borrow.Author.Tests.{ltb-true, ltb-false, leb-true, leb-false, eqb-true, eqb-false}

pub data Reflects (P : Type 0) : Bool → Type 0 where
  passes : P → Reflects P true
  fails : ¬ P → Reflects P false

pub holds_by : {P : Type 0} {b : Bool} → Reflects P b → b ≡ true → P
holds_by (passes p) e = p
holds_by (fails n) e = absurd (false≢true e)

pub fails_by : {P : Type 0} {b : Bool} → Reflects P b → b ≡ false → ¬ P
fails_by (passes p) e = absurd (false≢true (sym e))
fails_by (fails n) e = n

-- by the test's own value
pub decided : {P : Type 0} (b : Bool) → (b ≡ true → P) → (b ≡ false → ¬ P) → Reflects P b
decided true y n = passes (y refl)
decided false y n = fails (n refl)

-- the same in other words
pub restated : {P Q : Type 0} {b : Bool} → (P → Q) → (Q → P) → Reflects P b → Reflects Q b
restated f g (passes p) = passes (f p)
restated f g (fails n) = fails (λ q. n (g q))

pub is_less : (a b : ℕ) → Reflects (a < b) (ltb a b)
is_less a b = decided (ltb a b) (ltb-true a b) (λ e l. omega (arith, ltb-false a b e))

pub is_most : (a b : ℕ) → Reflects (a ≤ b) (leb a b)
is_most a b = decided (leb a b) (leb-true a b) (λ e l. omega (arith, leb-false a b e))

pub is_equal : (a b : ℕ) → Reflects (a ≡ b) (eqb a b)
is_equal a b = decided (eqb a b) (eqb-true a b) (eqb-false a b)

pub is_true : (b : Bool) → Reflects (b ≡ true) b
is_true true = passes refl
is_true false = fails false≢true

pub is_false : (b : Bool) → Reflects (b ≡ false) (not b)
is_false true = fails (λ e. false≢true (sym e))
is_false false = passes refl

pub is_not : {P : Type 0} {b : Bool} → Reflects P b → Reflects (¬ P) (not b)
is_not (passes p) = fails (λ n. n p)
is_not (fails n) = passes n

pub both : {P Q : Type 0} {b c : Bool} → Reflects P b → Reflects Q c → Reflects (P × Q) (b && c)
both (passes p) (passes q) = passes (p, q)
both (passes p) (fails n) = fails (λ k. n k.1)
both (fails n) q = fails (λ k. n k.0)

pub either : {P Q : Type 0} {b c : Bool} → Reflects P b → Reflects Q c → Reflects (P ⊎ Q) (b || c)
either (passes p) q = passes (inl p)
either (fails n) (passes q) = passes (inr q)
either {P} {Q} (fails n) (fails m) = fails neither
  where
    neither : ¬ (P ⊎ Q)
    neither (inl p) = n p
    neither (inr q) = m q

-- one of two tests fails
pub either_fails : {P Q : Type 0} (b c : Bool) → Reflects P (not b) → Reflects Q (not c) → Reflects (P ⊎ Q) (not (b && c))
either_fails {P} {Q} true true p q = fails neither
  where
    neither : ¬ (P ⊎ Q)
    neither (inl x) = fails_by p refl x
    neither (inr x) = fails_by q refl x
either_fails true false p q = passes (inr (holds_by q refl))
either_fails false c p q = passes (inl (holds_by p refl))

pub is_above : (a b : ℕ) → Reflects (b < a) (not (leb a b))
is_above a b = restated (λ n. omega arith) (λ l m. omega arith) (is_not (is_most a b))

pub is_least : (a b : ℕ) → Reflects (b ≤ a) (not (ltb a b))
is_least a b = restated (λ n. omega arith) (λ l m. omega arith) (is_not (is_less a b))

-- what a test chooses
pub chosen : {A P : Type 0} {b : Bool} (x y : A) → Reflects P b → P → cond b x y ≡ x
chosen x y (passes p) q = refl
chosen x y (fails n) q = absurd (n q)

pub other : {A P : Type 0} {b : Bool} (x y : A) → Reflects P b → ¬ P → cond b x y ≡ y
other x y (passes p) n = absurd (n p)
other x y (fails q) n = refl
