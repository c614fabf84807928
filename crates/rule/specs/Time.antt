-- Document 01, "Time and value": instants, spans, values, kinds and windows. Assumes nothing.
use Rattle.std.specs.Prelude.{ℕ, ◌+◌, ◌<◌, ◌≤◌, min, Bool, ◌&&◌, ℤ, nat_le, nat_lt, unsigned_abs}

-- "Instants are 0 to 4,294,967,294. END = 4,294,967,295 is no instant."
abbrev pub END : ℕ
END = 4294967295

-- "A span [s, e) has s < e ≤ END."
pub record Span (s e : ℕ) : Type 0 where
  pub before : s < e
  pub within : e ≤ END

-- the test for it
unfoldable pub span_ok : ℕ → ℕ → Bool
span_ok s e = nat_lt s e && nat_le e END

-- "A value is −1,000,000 to 1,000,000."
abbrev pub most_value : ℕ
most_value = 1000000

unfoldable pub value_ok : ℤ → Bool
value_ok v = nat_le (unsigned_abs v) most_value

-- "An index has a kind (1 totals, 2 greatest, 3 least)"
unfoldable pub kind_ok : ℕ → Bool
kind_ok kind = nat_le 1 kind && nat_le kind 3

-- "and a window w from 0 to 1,000,000,000, both set at format."
unfoldable pub window_ok : ℕ → Bool
window_ok w = nat_le w 1000000000

-- "its effect covers [s, e'), e' the smaller of e+w and END"
unfoldable pub effect_end : ℕ → ℕ → ℕ
effect_end e w = min (e + w) END

-- the span [s, e) has the instant t
unfoldable pub covers : ℕ → ℕ → ℕ → Bool
covers s e t = nat_le s t && nat_lt t e

-- the spans [a, b) and [lo, hi) have an instant in common
unfoldable pub overlaps : ℕ → ℕ → ℕ → ℕ → Bool
overlaps a b lo hi = nat_lt lo b && nat_lt a hi

-- "A booking counts at instant t if [s, e) overlaps [t−w, t]": both have the instant `at`
pub record Counts (s e w t : ℕ) : Type 0 where
  pub at : ℕ
  pub begun : s ≤ at
  pub live : at < e
  pub past : at ≤ t
  pub recent : t ≤ at + w
