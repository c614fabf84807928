-- Equal pairs give equal runs and equal listings. Assumes nothing.
use Prim.Native.Nat.{ℕ, zero, suc, ◌+◌, ◌-◌, ◌≤◌, ◌<◌}
use mathlib.Core.Path.{◌≡◌, refl}
use mathlib.Core.Bool.{Bool, true, false}
use mathlib.Core.List.{List}
use native.Mathlib.Omega.{arith}
use Rattle.rule.specs.declared.Pair.{Pair}
use Rattle.rule.specs.Time.{END, span_ok}
use Rattle.calls.specs.Refusals.{first}
use Rattle.book.specs.Book.{runs_after, runs_of, listing_of}
use Rattle.demands.proofs.Book.Spans.{span_is}

module _ (f g : ℕ → Pair) where
  after_same : (t k : ℕ) → ((u : ℕ) → t ≤ u → u ≤ t + k → f u ≡ g u) → runs_after f t k ≡ runs_after g t k
  unfolding runs_after
  after_same t zero h = refl
  after_same t (suc k) h =
      rw (
        h t (omega arith) (omega arith),
        h (suc t) (omega arith) (omega arith),
        after_same (suc t) k
            (λ u a b. h u (omega arith) (omega arith)),
      )

  pub runs_same : (a b : ℕ) → a < b → ((t : ℕ) → a ≤ t → t < b → f t ≡ g t) → runs_of f a b ≡ runs_of g a b
  unfolding runs_of
  runs_same a b l h = rw (h a (omega arith) l, after_same a (b - suc a) (λ u x y. h u x (omega arith)))

  -- a span that isn't one is turned back by 11 for both, so the pairs count at instants only
  pub listing_same : (a b : ℕ) (out : List ℕ) → ((t : ℕ) → a ≤ t → t < b → t < END → f t ≡ g t)
      → listing_of f a b out ≡ listing_of g a b out
  unfolding listing_of first
  listing_same a b out h = go (span_ok a b) refl
    where
      go : (x : Bool) → span_ok a b ≡ x → listing_of f a b out ≡ listing_of g a b out
      go true e = let span = span_is a b e in rw (runs_same a b span.before (λ t x y. h t x y (omega arith)))
      go false e = rw e
