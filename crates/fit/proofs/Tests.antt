-- Checks made of parts: a loop that tests each of n things without an exit, and exits between the parts. Assumes nothing.
use Rattle.std.proofs.Common.{◌≡◌, ℕ, zero, suc, ◌<◌, ◌≤◌, Bool, true, false, ◌&&◌, eqb, ltb, leb, ◌↔◌, sym, refl, ap, ◌∙◌, ltb-true, lt-ltb, eq-eqb, eqb-true, le-leb, leb-true}
use Rattle.fields.specs.Bytes.{every}
use Rattle.fields.proofs.Laws.Tests.{every_all, every_of}

-- two tests of each thing are one of both
pub every_both : (n : ℕ) (p q : ℕ → Bool) → every n (λ i. p i && q i) ≡ every n p && every n q
unfolding every
every_both zero p q = refl
every_both (suc n) p q = ap (λ t. t && (p n && q n)) (every_both n p q) ∙ four (every n p) (every n q) (p n) (q n)
  where
    four : (a b c d : Bool) → ((a && b) && (c && d)) ≡ ((a && c) && (b && d))
    four true true c d = refl
    four true false true d = refl
    four true false false d = refl
    four false b c d = refl

-- a check goes on where a part passes, and ends where one fails
pub passes : {a b r : Bool} → a ≡ true → r ≡ b → r ≡ (a && b)
passes {b = b} h e = e ∙ ap (λ t. t && b) (sym h)

pub fails : {a : Bool} (b : Bool) → a ≡ false → false ≡ (a && b)
fails b h = ap (λ t. t && b) (sym h)

-- ---- tests as facts

pub le_is : (a b : ℕ) → (leb a b ≡ true) ↔ (a ≤ b)
le_is a b = (leb-true a b, le-leb a b)

pub lt_is : (a b : ℕ) → (ltb a b ≡ true) ↔ (a < b)
lt_is a b = (ltb-true a b, lt-ltb a b)

pub eq_is : (a b : ℕ) → (eqb a b ≡ true) ↔ (a ≡ b)
eq_is a b = (eqb-true a b, eq-eqb a b)

pub each_is : (n : ℕ) (p : ℕ → Bool) (P : ℕ → Type 0) → ((i : ℕ) → (p i ≡ true) ↔ P i) → (every n p ≡ true) ↔ ((i : ℕ) → i < n → P i)
each_is n p P e = (λ h i l. (e i).0 (every_all n p h i l), λ f. every_of n p (λ i l. (e i).1 (f i l)))

-- a test that goes by a case is a fact that goes by the same case
pub case_is : {P : Type 0} (t b : Bool) → (t ≡ true → (b ≡ true) ↔ P) → (t ≡ false → (b ≡ true) ↔ P) → (b ≡ true) ↔ P
case_is true b y n = y refl
case_is false b y n = n refl
