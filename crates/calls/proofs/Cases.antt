-- The first row whose test passes is the first case that holds. Assumes nothing.
use Prim.Native.Nat.{ℕ}
use mathlib.Core.Path.{◌≡◌, sym}
use mathlib.Core.Logic.{◌≢◌, ◌⊎◌, inl, inr}
use mathlib.Core.Bool.{Bool, cond}
use mathlib.Core.List.{List, [], ◌∷◌}
use Rattle.calls.specs.Tables.{Case, ◌when◌, Returned, Exactly}
use Rattle.calls.proofs.Reflects.{Reflects, passes, fails}

pub record Tested (number : ℕ) (cases : List Case) : Type 0 where
  pub exactly : Exactly cases number

pub no_row : Tested 0 []
unfolding Exactly Returned
no_row = record { exactly = λ r. (sym, sym) }

-- a row ahead of others, by its test
pub next_row : (n : ℕ) {P : Type 0} {b : Bool} {m : ℕ} {cases : List Case} → Reflects P b → Tested m cases
    → Tested (cond b n m) ((n when P) ∷ cases)
unfolding Exactly Returned
next_row n {P} {cases = cases} (passes p) later = record { exactly = λ r. (λ e. inl (p, sym e), back r) }
  where
    back : (r : ℕ) → (P × (r ≡ n)) ⊎ ((¬ P) × Returned cases r) → n ≡ r
    back r (inl k) = sym k.1
    back r (inr k) = absurd (k.0 p)
next_row n {P} {m = m} {cases = cases} (fails q) later = record { exactly = λ r. (λ e. inr (q, (later.exactly r).0 e), back r) }
  where
    back : (r : ℕ) → (P × (r ≡ n)) ⊎ ((¬ P) × Returned cases r) → m ≡ r
    back r (inl k) = absurd (q k.0)
    back r (inr k) = (later.exactly r).1 k.1

-- of three cases, the status of the last tells that it holds
later_case : (n r : ℕ) (P : Type 0) (cases : List Case) → n ≢ r → Returned ((n when P) ∷ cases) r → Returned cases r
unfolding Returned
later_case n r P cases d (inl k) = absurd (d (sym k.1))
later_case n r P cases d (inr k) = k.1

pub third_case : (n m r : ℕ) (P Q S : Type 0) → n ≢ r → m ≢ r → r ≢ 0 → Returned ((n when P) ∷ (m when Q) ∷ (r when S) ∷ []) r → S
unfolding Returned
third_case n m r P Q S a b d k = go (later_case m r Q ((r when S) ∷ []) b (later_case n r P ((m when Q) ∷ (r when S) ∷ []) a k))
  where
    go : (S × (r ≡ r)) ⊎ ((¬ S) × (r ≡ 0)) → S
    go (inl k) = k.0
    go (inr k) = absurd (d k.1)
