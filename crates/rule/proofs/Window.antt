-- The effect of a booking covers exactly the instants at which it counts. Assumes nothing.
use Rattle.std.proofs.Common.{◌≡◌, ℕ, ◌+◌, ◌-◌, ◌<◌, ◌≤◌, min, max, true, ltb, leb, ◌↔◌, arith, ltb-true, lt-ltb, le-leb, leb-true}
use Rattle.rule.specs.Time.{END, Span, effect_end, covers, Counts}
use Rattle.rule.proofs.Tests.{both}

pub covers_is : (s e t : ℕ) → (covers s e t ≡ true) ↔ ((s ≤ t) × (t < e))
unfolding covers
covers_is s e t = both (leb s t) (ltb t e) (leb-true s t, le-leb s t) (ltb-true t e, lt-ltb t e)

pub counts_is : (s e w t : ℕ) → Span s e → t < END → (covers s (effect_end e w) t ≡ true) ↔ Counts s e w t
unfolding effect_end
counts_is s e w t span below = (
  λ c. let h = (covers_is s (min (e + w) END) t).0 c in
      record { at = max s (t - w); begun = omega arith; live = omega arith; past = omega arith; recent = omega arith },
  λ o. (covers_is s (min (e + w) END) t).1 (omega arith),
)
