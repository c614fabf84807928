-- A Bool test and the fact that it tests. Assumes nothing.
use Rattle.std.proofs.Common.{◌≡◌, Bool, true, false, ◌&&◌, ◌||◌, ◌⊎◌, ◌↔◌, sym, refl, inl, inr, ⊎_elim, true≢false}
use mathlib.Core.Bool.{false≢true}

-- a test that passes exactly where P holds fails exactly where it doesn't
pub fails {ℓ} : {P : Type ℓ} (b : Bool) → (b ≡ true) ↔ P → (b ≡ false) ↔ (P → ⊥)
fails true e = (λ f. absurd (true≢false f), λ n. absurd (n (e.0 refl)))
fails false e = (λ f p. false≢true (e.1 p), λ n. refl)

-- two tests for one fact are one test
pub one_test {ℓ} : {P : Type ℓ} (a b : Bool) → (a ≡ true) ↔ P → (b ≡ true) ↔ P → a ≡ b
one_test true b e f = sym (f.1 (e.0 refl))
one_test false true e f = e.1 (f.0 refl)
one_test false false e f = refl

-- both of two tests pass
pub both {ℓ κ} : {P : Type ℓ} {Q : Type κ} (a b : Bool) → (a ≡ true) ↔ P → (b ≡ true) ↔ Q → (a && b ≡ true) ↔ (P × Q)
both true b e f = (λ h. (e.0 refl, f.0 h), λ h. f.1 h.1)
both false b e f = (λ h. absurd (false≢true h), λ h. e.1 h.0)

-- one of two tests passes
pub either {ℓ κ} : {P : Type ℓ} {Q : Type κ} (a b : Bool) → (a ≡ true) ↔ P → (b ≡ true) ↔ Q → (a || b ≡ true) ↔ (P ⊎ Q)
either true b e f = (λ h. inl (e.0 refl), λ h. refl)
either false b e f = (λ h. inr (f.0 h), ⊎_elim (λ x. absurd (false≢true (e.1 x))) f.1)
