-- Spans and what they cover. Assumes nothing.
use Prim.Native.Nat.{ℕ, ◌+◌, ◌-◌, ◌≤◌, ◌<◌, max, min}
use mathlib.Core.Path.{◌≡◌, ap}
use mathlib.Core.Logic.{◌↔◌, ◌⊎◌, inl, inr}
use mathlib.Core.Bool.{true, false, ◌&&◌, and-false}
use native.Mathlib.Omega.{arith}
use lib.Dec.{leb, ltb}
use borrow.Author.Tests.{leb-true, le-leb, lt-leb, ltb-true, lt-ltb, le-ltb}
use Rattle.rule.specs.Time.{END, Span, span_ok, effect_end, covers, Counts}
use Rattle.rule.proofs.Tests.{both, one_test}
use Rattle.calls.specs.Changes.{Change}
use Rattle.book.specs.Aggregate.{counts_at}

pub span_is : (s e : ℕ) → span_ok s e ≡ true → Span s e
unfolding span_ok
span_is s e h =
    let r = (both (ltb s e) (leb e END) (ltb-true s e, lt-ltb s e) (leb-true e END, le-leb e END)).0 h in
    record { before = r.0; within = r.1 }

-- [s, e) overlaps [t−w, t] exactly where [s, e') has t
pub overlap_is : (s e w t : ℕ) → Span s e → t < END → leb s t && ltb (t - w) e ≡ covers s (effect_end e w) t
unfolding covers effect_end
overlap_is s e w t h l =
    ap (λ x. leb s t && x)
    (one_test {P = t - w < e} (ltb (t - w) e) (ltb t (min (e + w) END)) (ltb-true (t - w) e, lt-ltb (t - w) e)
    (λ x. omega (arith, ltb-true t (min (e + w) END) x), λ x. lt-ltb t (min (e + w) END) (omega arith)))

pub covers_not : (s e t : ℕ) → (t < s) ⊎ (e ≤ t) → covers s e t ≡ false
unfolding covers
covers_not s e t (inl h) = rw (lt-leb s t h)
covers_not s e t (inr h) = rw (le-ltb t e h, and-false)

-- the aggregate's test: "A booking counts at instant t if [s, e) overlaps [t−w, t]"
pub counts_at_is : (w : ℕ) (c : Change) (t : ℕ) → Span c.s c.e → (counts_at w c t ≡ true) ↔ Counts c.s c.e w t
unfolding counts_at
counts_at_is w c t span = (
  λ h. let r = test.0 h in
      record { at = max c.s (t - w); begun = omega arith; live = omega arith; past = omega arith; recent = omega arith },
  λ o. test.1 (omega arith),
)
  where
    test : (leb c.s t && ltb (t - w) c.e ≡ true) ↔ ((c.s ≤ t) × (t - w < c.e))
    test = both (leb c.s t) (ltb (t - w) c.e) (leb-true c.s t, le-leb c.s t) (ltb-true (t - w) c.e, lt-ltb (t - w) c.e)
